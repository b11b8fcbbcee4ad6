-- The parts of a scenario in range, and each of its lists in order. Just such parts are those of a scenario.
use Rattle.std.specs.Prelude.{◌≡◌, ◌≢◌, ◌+◌, ◌*◌, ◌<◌, ◌≤◌, ℕ, true, false, length, All}
use Rattle.std.specs.Int.RustNames.{unsigned_abs}
use Rattle.std.specs.List.{AllPairs}
use Rattle.std.specs.Ordering.{nat_cmp, ordering_then}
use Rattle.std.specs.declared.cmp.Ordering.{Ordering}
use Rattle.lwb_base.specs.Profile.{IsProfile}
use Rattle.lwb_base.specs.declared.limits.TheConstants.{DRIFT_BOUND, GREATEST_ID, MOST_BOOTS, MOST_FRAMES, MOST_NODES, MOST_RANKS}
use Rattle.bus_rules.specs.States.{payload_of}
use Rattle.link_trace.specs.Order.{Ascends, by_link, by_loss, by_cut, by_capture}
use Rattle.scenario_text.specs.FloodParts.{knows}
use Rattle.scenario_text.specs.ScenarioFacts.{AreEnds, IsStepOf, IsScriptLine, turned}
use Rattle.scenario_text.specs.ScenarioGrammar.{last_tick}
use Rattle.scenario_text.specs.ScenarioParts.{ScenarioParts}
use Rattle.scenario_text.specs.declared.limits.TheConstants.{BUS_NODE_FRAMES, BUS_SCRIPT_LINES}
use Rattle.scenario_text.specs.declared.lines.NodeLine.{NodeLine}
use Rattle.scenario_text.specs.declared.lines.RateLine.{RateLine}

pub record IsNodeLine (n : NodeLine) : Type 0 where
  pub id : (1 ≤ n.node) × (n.node ≤ GREATEST_ID)
  pub offset : n.offset ≤ 256000

pub record IsRateLine (s : ScenarioParts) (r : RateLine) : Type 0 where
  pub known : knows s.nodes r.node ≡ true
  pub tick : r.from ≤ last_tick s.profile
  pub millionths : unsigned_abs r.ppm ≤ DRIFT_BOUND

-- by node, and those of one node by tick
abbrev pub by_rate : RateLine → RateLine → Ordering
by_rate a b = ordering_then (nat_cmp a.node b.node) (nat_cmp a.from b.from)

-- the script lines of all kinds
abbrev pub script_lines : ScenarioParts → ℕ
script_lines s = length s.rates + length s.script + length s.trace.losses + length s.trace.cuts + length s.trace.captures

pub record IsInOrder (s : ScenarioParts) : Type 0 where
  pub profile : IsProfile s.profile
  pub frames : (1 ≤ s.frames) × (s.frames ≤ MOST_FRAMES)
  pub sends : (1 ≤ s.sends) × (s.sends ≤ 4)
  pub node_count : (2 ≤ length s.nodes) × (length s.nodes ≤ MOST_NODES)
  pub node_frames : length s.nodes * s.frames ≤ BUS_NODE_FRAMES
  pub nodes : All IsNodeLine s.nodes
  pub nodes_ascend : AllPairs (λ a b. a.node < b.node) s.nodes
  pub rates : All (IsRateLine s) s.rates
  pub rates_ascend : Ascends by_rate s.rates
  pub host_count : (1 ≤ length s.hosts) × (length s.hosts ≤ MOST_RANKS)
  pub hosts : All (λ h. knows s.nodes h ≡ true) s.hosts
  pub hosts_differ : AllPairs (λ a b. a ≢ b) s.hosts
  pub links : All (λ l. AreEnds s.nodes l.from l.to) s.trace.links
  pub links_ascend : Ascends by_link s.trace.links
  pub losses : All (λ l. IsStepOf s l.frame l.slot l.step × AreEnds s.nodes l.from l.to) s.trace.losses
  pub losses_ascend : Ascends by_loss s.trace.losses
  pub cuts : All (λ l. IsStepOf s l.frame l.slot l.step × (knows s.nodes l.node ≡ true)) s.trace.cuts
  pub cuts_ascend : Ascends by_cut s.trace.cuts
  pub captures : All (λ l. IsStepOf s l.frame l.slot l.step × AreEnds s.nodes l.at l.from) s.trace.captures
  pub captures_ascend : Ascends by_capture s.trace.captures
  pub script : All (IsScriptLine s) s.script
  pub script_ascends : AllPairs (λ a b. a.frame ≤ b.frame) s.script
  pub payload_bytes : All (λ l. All (λ b. b < 256) (payload_of l.act)) s.script
  pub few_lines : script_lines s ≤ BUS_SCRIPT_LINES
  pub few_boots : (v : ℕ) → (turned v (false, 0) s.script).1 ≤ MOST_BOOTS
