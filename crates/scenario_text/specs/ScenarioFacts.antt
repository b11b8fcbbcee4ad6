-- What is true of each scenario.
use Rattle.std.specs.Prelude.{◌≡◌, ◌≢◌, ◌+◌, ◌*◌, ◌^◌, ◌<◌, ◌≤◌, ℕ, List, [], ◌∷◌, filter, Bool, true, false, if◌then◌else◌, length, ◌==◌, All}
use Rattle.std.specs.Int.RustNames.{unsigned_abs}
use Rattle.std.specs.List.{AllPairs}
use Rattle.lwb_base.specs.Profile.{IsProfile}
use Rattle.lwb_base.specs.declared.limits.TheConstants.{DRIFT_BOUND, GREATEST_ID, LAST_STEP, MOST_BOOTS, MOST_FRAMES, MOST_NODES, MOST_RANKS}
use Rattle.bus_rules.specs.States.{IsAct}
use Rattle.link_trace.specs.Order.{Ascends, by_link, by_loss, by_cut, by_capture}
use Rattle.scenario_text.specs.FloodParts.{knows}
use Rattle.scenario_text.specs.ScenarioGrammar.{last_tick, greatest_slot_of}
use Rattle.scenario_text.specs.ScenarioParts.{ScenarioParts}
use Rattle.scenario_text.specs.declared.limits.TheConstants.{BUS_NODE_FRAMES}
use Rattle.scenario_text.specs.declared.lines.NodeLine.{NodeLine}
use Rattle.bus_rules.specs.declared.act.Act.{Act}
use Rattle.bus_rules.specs.declared.act.Act.TheVariants.{On, Off}
use Rattle.scenario_text.specs.declared.script.ScriptLine.{ScriptLine}

-- two of these nodes, which differ
pub record AreEnds (ns : List NodeLine) (u v : ℕ) : Type 0 where
  pub from_known : knows ns u ≡ true
  pub to_known : knows ns v ≡ true
  pub differ : u ≢ v

-- the step is one of a slot of a frame of the scenario
pub record IsStepOf (s : ScenarioParts) (frame slot step : ℕ) : Type 0 where
  pub in_run : frame < s.frames
  pub in_frame : slot ≤ greatest_slot_of s.profile
  pub in_slot : step ≤ LAST_STEP

pub record IsScriptLine (s : ScenarioParts) (l : ScriptLine) : Type 0 where
  pub in_run : l.frame < s.frames
  pub known : knows s.nodes l.node ≡ true
  pub act : IsAct s.profile l.act

-- whether a node is on, and how often it booted, after what it is given: it boots where it was off
abbrev pub turned_by : Act → Bool × ℕ → Bool × ℕ
turned_by On t = (true, if t.0 then t.1 else t.1 + 1)
turned_by Off t = (false, t.1)
turned_by other t = t

-- and after these lines of a script
abbrev pub turned : ℕ → Bool × ℕ → List ScriptLine → Bool × ℕ
turned v t [] = t
turned v t (l ∷ ls) = turned v (if l.node == v then turned_by l.act t else t) ls

-- all but its lines of links
pub record IsSoundScenario (s : ScenarioParts) : Type 0 where
  pub profile : IsProfile s.profile
  pub some_frames : 1 ≤ s.frames
  pub few_frames : s.frames ≤ MOST_FRAMES
  pub some_sends : 1 ≤ s.sends
  pub few_sends : s.sends ≤ 4
  pub two_nodes : 2 ≤ length s.nodes
  pub few_nodes : length s.nodes ≤ MOST_NODES
  pub node_frames : length s.nodes * s.frames ≤ BUS_NODE_FRAMES
  pub ids : All (λ n. (1 ≤ n.node) × (n.node ≤ GREATEST_ID)) s.nodes
  pub ascending : AllPairs (λ a b. a.node < b.node) s.nodes
  pub offsets : All (λ n. n.offset ≤ 256000) s.nodes
  pub rates_known : All (λ r. knows s.nodes r.node ≡ true) s.rates
  pub rates_ascend : (i : ℕ) → AllPairs (λ a b. a.from < b.from) (filter (λ r. r.node == i) s.rates)
  pub rates_in_run : All (λ r. r.from ≤ last_tick s.profile) s.rates
  pub rates_early : All (λ r. r.from < 2 ^ 47) s.rates
  pub rates_small : All (λ r. unsigned_abs r.ppm ≤ DRIFT_BOUND) s.rates
  pub some_hosts : 1 ≤ length s.hosts
  pub few_hosts : length s.hosts ≤ MOST_RANKS
  pub hosts_known : All (λ h. knows s.nodes h ≡ true) s.hosts
  pub hosts_differ : AllPairs (λ a b. a ≢ b) s.hosts
  pub script : All (IsScriptLine s) s.script
  pub script_ascends : AllPairs (λ a b. a.frame ≤ b.frame) s.script
  pub few_boots : (v : ℕ) → (turned v (false, 0) s.script).1 ≤ MOST_BOOTS

-- its lines of links: between two of its nodes, in its run, each list in order
pub record HasSoundLines (s : ScenarioParts) : Type 0 where
  pub links : All (λ l. AreEnds s.nodes l.from l.to) s.trace.links
  pub links_ascend : Ascends by_link s.trace.links
  pub losses : All (λ l. IsStepOf s l.frame l.slot l.step × AreEnds s.nodes l.from l.to) s.trace.losses
  pub losses_ascend : Ascends by_loss s.trace.losses
  pub cuts : All (λ l. IsStepOf s l.frame l.slot l.step × (knows s.nodes l.node ≡ true)) s.trace.cuts
  pub cuts_ascend : Ascends by_cut s.trace.cuts
  pub captures : All (λ l. IsStepOf s l.frame l.slot l.step × AreEnds s.nodes l.at l.from) s.trace.captures
  pub captures_ascend : Ascends by_capture s.trace.captures
