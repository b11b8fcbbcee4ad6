-- What is true of a scenario that some text says, part by part.
use Rattle.std.proofs.Common.{◌≡◌, ℕ, ◌+◌, ◌*◌, ◌<◌, ◌≤◌, List, [], ◌∷◌, Bool, true, false, if◌then◌else◌}
use Rattle.std.proofs.Common.{◌||◌, ◌==◌, nat_lt, Option, Some, None, length, replicate}
use Rattle.std.specs.Prelude.{slice_set}
use Rattle.std.specs.Int.RustNames.{unsigned_abs}
use Rattle.std.specs.List.{AllByRecursion, slice_index, slice_index_or}
use Rattle.std.specs.declared.cmp.Ordering.TheVariants.{Less}
use Rattle.lwb_base.specs.declared.limits.TheConstants.{MOST_FRAMES, MOST_NODES, MOST_RANKS}
use Rattle.lwb_base.specs.Profile.{Numbers, IsProfile}
use Rattle.link_trace.specs.Order.{by_link, by_loss, by_cut, by_capture}
use Rattle.link_trace.specs.Passes.{Lines}
use Rattle.link_trace.specs.Sealed.{no_lines}
use Rattle.link_trace.specs.declared.lines.LinkLine.{LinkLine}
use Rattle.link_trace.specs.declared.lines.LoseLine.{LoseLine}
use Rattle.link_trace.specs.declared.lines.CutLine.{CutLine}
use Rattle.link_trace.specs.declared.lines.CaptureLine.{CaptureLine}
use Rattle.scenario_text.specs.FloodParts.{knows}
use Rattle.scenario_text.specs.FloodDrafts.{Climbs, Rises, RatesBeginLater}
use Rattle.scenario_text.specs.Network.{is_id, rates_by_node}
use Rattle.scenario_text.specs.ScenarioGrammar.{Scenario, last_tick, line_in_range, line_knows_ids}
use Rattle.scenario_text.specs.ScenarioParts.{ScenarioParts}
use Rattle.scenario_text.specs.declared.limits.TheConstants.{BUS_NODE_FRAMES, BUS_SCRIPT_LINES}
use Rattle.scenario_text.specs.declared.lines.NodeLine.{NodeLine}
use Rattle.scenario_text.specs.declared.lines.RateLine.{RateLine}
use Rattle.scenario_text.specs.declared.network_line.NetworkLine.TheVariants.{Link}
use Rattle.scenario_text.specs.declared.scenario_line.ScenarioLine.{ScenarioLine}
use Rattle.scenario_text.specs.declared.scenario_line.ScenarioLine.TheVariants as line
use Rattle.scenario_text.specs.declared.written_act.WrittenAct.{WrittenAct}
use Rattle.scenario_text.specs.declared.written_act.WrittenAct.TheVariants as act
use Rattle.scenario_text.specs.declared.script.ScriptLine.{ScriptLine}
use Rattle.bus_rules.specs.declared.act.Act.{Act}
use Rattle.bus_rules.specs.declared.act.Act.TheVariants.{On, Off, Declare, Leave, Put}

-- for each id whether the node is on, and how often it booted
pub record Power : Type 0 where
  pub on : List Bool
  pub boots : List ℕ

abbrev pub no_power : Power
no_power = record { on = replicate 201 false; boots = replicate 201 0 }

abbrev pub after_act : Power → ℕ → Act → Power
after_act w i On = record {
  on = slice_set w.on i true;
  boots = slice_set w.boots i (if slice_index_or w.on i false then slice_index w.boots i else slice_index w.boots i + 1);
}
after_act w i Off = record { on = slice_set w.on i false; boots = w.boots }
after_act w i other = w

abbrev pub can_boot : Power → ℕ → Act → Bool
can_boot w i On = slice_index_or w.on i false || nat_lt (slice_index w.boots i) 200
can_boot w i other = true

abbrev pub power_after : Power → List ScriptLine → Power
power_after w [] = w
power_after w (l ∷ ls) = power_after (after_act w l.node l.act) ls

-- no node boots too often along the script
abbrev pub Boots : Power → List ScriptLine → Type 0
Boots w [] = Unit {0}
Boots w (l ∷ ls) = (can_boot w l.node l.act ≡ true) × Boots (after_act w l.node l.act) ls

-- the draft of these lists, with this many script lines
abbrev pub mid : ScenarioParts → List NodeLine → List RateLine → List ℕ → Lines → List ScriptLine → Power → ℕ → Scenario
mid s ns rs hs t ls w n = record {
  network = record { sends = Some s.sends; nodes = ns; rates = rs; trace = t; scripted = n; most = BUS_SCRIPT_LINES };
  first = false;
  after_two = false;
  profile = s.profile;
  frames = Some s.frames;
  hosts = hs;
  script = ls;
  on = w.on;
  boots = w.boots;
}

-- as it is written
abbrev pub written : Act → WrittenAct
written On = act.On
written Off = act.Off
written (Declare s n) = act.Stream s n
written (Leave s) = act.Leave s
written (Put s p) = act.Put s (Some p)

abbrev pub said_act : ℕ → ℕ → Act → ScenarioLine
said_act f i a = line.Script f i (written a)

abbrev pub said_link : LinkLine → ScenarioLine
said_link l = line.InNetwork (Link l.from l.to)

abbrev pub said_loss : LoseLine → ScenarioLine
said_loss l = line.Lose l.frame l.slot l.step l.from l.to

abbrev pub said_cut : CutLine → ScenarioLine
said_cut l = line.Cut l.frame l.slot l.step l.node

abbrev pub said_capture : CaptureLine → ScenarioLine
said_capture l = line.Capture l.frame l.slot l.step l.at l.from

-- the numbers of the line are in range, and its ids are known
pub record Fits (d : Scenario) (l : ScenarioLine) : Type 0 where
  pub range : line_in_range d l ≡ true
  pub known : line_knows_ids d l ≡ true

-- a payload has bytes
abbrev pub HasBytes : Act → Type 0
HasBytes (Put s p) = AllByRecursion (λ b. b < 256) p
HasBytes other = Unit {0}

pub record FitsAct (d : Scenario) (l : ScriptLine) : Type 0 where
  pub fits : Fits d (said_act l.frame l.node l.act)
  pub bytes : HasBytes l.act

pub record IsNode (n : NodeLine) : Type 0 where
  pub id : is_id n.node ≡ true
  pub offset : n.offset ≤ 256000

pub record IsRateOf (p : Numbers) (ns : List NodeLine) (r : RateLine) : Type 0 where
  pub id : is_id r.node ≡ true
  pub known : knows ns r.node ≡ true
  pub early : r.from ≤ last_tick p
  pub small : unsigned_abs r.ppm ≤ 20

pub record IsHost (ns : List NodeLine) (h : ℕ) : Type 0 where
  pub id : is_id h ≡ true
  pub known : knows ns h ≡ true

-- a draft by which the numbers and ids of lines are judged
abbrev pub judged : Numbers → Option ℕ → List NodeLine → Scenario
judged p frames ns = record {
  network = record { sends = None; nodes = ns; rates = []; trace = no_lines; scripted = 0; most = 0 };
  first = false;
  after_two = false;
  profile = p;
  frames = frames;
  hosts = [];
  script = [];
  on = [];
  boots = [];
}

abbrev pub judge : ScenarioParts → Scenario
judge s = judged s.profile (Some s.frames) s.nodes

pub record KeepsRules (s : ScenarioParts) : Type 0 where
  pub profile : IsProfile s.profile
  pub frames : (1 ≤ s.frames) × (s.frames ≤ MOST_FRAMES)
  pub sends : (1 ≤ s.sends) × (s.sends ≤ 4)
  pub some_nodes : 2 ≤ length s.nodes
  pub few_nodes : length s.nodes ≤ MOST_NODES
  pub nodes : AllByRecursion IsNode s.nodes
  pub rises : Rises s.nodes
  pub rates : AllByRecursion (IsRateOf s.profile s.nodes) s.rates
  pub follows : RatesBeginLater s.rates
  pub in_turn : rates_by_node s.nodes s.rates ≡ s.rates
  pub some_hosts : 1 ≤ length s.hosts
  pub few_hosts : length s.hosts ≤ MOST_RANKS
  pub hosts : AllByRecursion (IsHost s.nodes) s.hosts
  pub distinct : Climbs (λ g h. (g == h) ≡ false) s.hosts
  pub links : AllByRecursion (λ l. Fits (judge s) (said_link l)) s.trace.links
  pub links_climb : Climbs (λ a b. by_link a b ≡ Less) s.trace.links
  pub script : AllByRecursion (FitsAct (judge s)) s.script
  pub script_climbs : Climbs (λ a b. a.frame ≤ b.frame) s.script
  pub boots : Boots no_power s.script
  pub losses : AllByRecursion (λ l. Fits (judge s) (said_loss l)) s.trace.losses
  pub losses_climb : Climbs (λ a b. by_loss a b ≡ Less) s.trace.losses
  pub cuts : AllByRecursion (λ l. Fits (judge s) (said_cut l)) s.trace.cuts
  pub cuts_climb : Climbs (λ a b. by_cut a b ≡ Less) s.trace.cuts
  pub captures : AllByRecursion (λ l. Fits (judge s) (said_capture l)) s.trace.captures
  pub captures_climb : Climbs (λ a b. by_capture a b ≡ Less) s.trace.captures
  pub scripted : length s.rates + length s.script + length s.trace.losses + length s.trace.cuts + length s.trace.captures ≤ BUS_SCRIPT_LINES
  pub small : length s.nodes * s.frames ≤ BUS_NODE_FRAMES
