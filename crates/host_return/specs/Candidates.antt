-- Which backup hosts may go back in a run.
use Rattle.std.specs.Prelude.{◌≡◌, ℕ, ◌+◌, ◌<◌, List, Bool, true, false, ◌&&◌, ◌||◌, ◌==◌, nat_lt}
use Rattle.std.specs.List.{list_any}
use Rattle.scenario_text.specs.FloodParts.{knows}
use Rattle.scenario_text.specs.ScenarioParts.{ScenarioParts}
use Rattle.bus_rules.specs.declared.act.Act.{Act}
use Rattle.bus_rules.specs.declared.act.Act.TheVariants.{Off}
use Rattle.scenario_text.specs.declared.script.ScriptLine.{ScriptLine}
use Rattle.air_log.specs.declared.entry.Entry.{Entry}
use Rattle.host_return.specs.Probes.{Probed}
use Rattle.host_return.specs.declared.returned.Return.{Return}

-- whether the line sends node v off in frame f
abbrev pub is_off_act : Act → Bool
is_off_act Off = true
is_off_act other = false

abbrev pub switches_off : ℕ → ℕ → ScriptLine → Bool
switches_off f v l = (l.frame == f) && (l.node == v) && is_off_act l.act

-- in this run node r.node may go back after frame r.frame, where r.rank was probed. read: the scenario that was read
pub record IsCandidate (read s : ScenarioParts) (air : List Entry) (r : Return) : Type 0 where
  pub known : knows s.nodes r.node ≡ true
  pub probed : Probed s air r.frame r.node r.rank
  pub in_run : r.frame + 1 < read.frames
  pub stays_on : list_any (switches_off (r.frame + 1) r.node) read.script ≡ false

-- by frame, and then by node
abbrev pub return_comes_before : Return → Return → Bool
return_comes_before q r = nat_lt q.frame r.frame || ((q.frame == r.frame) && nat_lt q.node r.node)

-- one of them is of the frame and node of r
abbrev pub is_listed : List Return → Return → Bool
is_listed rs r = list_any (λ q. (q.frame == r.frame) && (q.node == r.node)) rs

-- the least candidate that is not in the list
pub record IsNextReturn (read s : ScenarioParts) (air : List Entry) (listed : List Return) (r : Return) : Type 0 where
  pub candidate : IsCandidate read s air r
  pub fresh : is_listed listed r ≡ false
  pub least : (q : Return) → IsCandidate read s air q → is_listed listed q ≡ false → return_comes_before q r ≡ false

-- every candidate is in the list
abbrev pub AllListed : ScenarioParts → ScenarioParts → List Entry → List Return → Type 0
AllListed read s air listed = (r : Return) → IsCandidate read s air r → is_listed listed r ≡ true
