-- What the lines of the script lose by a log, as a recursion that carries the lines above.
use Rattle.std.proofs.Common.{◌≡◌, ℕ, List, [], Option, take}
use Rattle.std.specs.Prelude.{filter_map}
use Rattle.std.specs.List.{enumerate_from}
use Rattle.lwb_base.proofs.LinesAbove.{given_below, by_place}
use Rattle.scenario_text.specs.ScenarioParts.{ScenarioParts}
use Rattle.scenario_text.specs.declared.script.ScriptLine.{ScriptLine}
use Rattle.bus_rules.specs.declared.delivery.DropLine.{DropLine}
use Rattle.air_log.specs.declared.entry.Entry.{Entry}
use Rattle.air_log.specs.Drops.{device_before_line, drop_of_line, drops_of}

module _ (s : ScenarioParts) (clocks : ℕ → ℕ → ℕ) (air : List Entry) where
  -- what a line loses, where these lines are above it
  abbrev lost_below : List ScriptLine → ScriptLine → Option DropLine
  lost_below above l = drop_of_line l (device_before_line s clocks air above l).power

  -- what these lines lose, where the others are above them
  abbrev pub trail_drops_below : List ScriptLine → List ScriptLine → List DropLine
  trail_drops_below = given_below lost_below

  -- also where these are the first lines of the script
  pub told_by_place : (told : List ScriptLine)
      → filter_map (λ (x : ℕ × ScriptLine). drop_of_line x.1 (device_before_line s clocks air (take x.0 told) x.1).power) (enumerate_from 0 told)
      ≡ trail_drops_below [] told
  told_by_place told = by_place lost_below told

  pub drops_by_place : drops_of s clocks air ≡ trail_drops_below [] s.script
  drops_by_place = told_by_place s.script
