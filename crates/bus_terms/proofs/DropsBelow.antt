-- What the lines of the script lose, as a recursion that carries the lines above.
use Rattle.std.proofs.Common.{◌≡◌, List, [], Option}
use Rattle.scenario_text.specs.ScenarioParts.{ScenarioParts}
use Rattle.scenario_text.specs.declared.script.ScriptLine.{ScriptLine}
use Rattle.bus_rules.specs.declared.delivery.DropLine.{DropLine}
use Rattle.bus_terms.specs.Bus.{bus_drops, state_before_line}
use Rattle.bus_terms.specs.ScriptedStates.{lost_by}
use Rattle.lwb_base.proofs.LinesAbove.{given_below, by_place}

-- what a line loses, where these lines are above it
abbrev lost_below : ScenarioParts → List ScriptLine → ScriptLine → Option DropLine
lost_below s above l = lost_by l l.act (state_before_line s above l)

-- what these lines lose, where the others are above them
abbrev pub drops_below : ScenarioParts → List ScriptLine → List ScriptLine → List DropLine
drops_below s = given_below (lost_below s)

pub drops_by_place : (s : ScenarioParts) → bus_drops s ≡ drops_below s [] s.script
drops_by_place s = by_place (lost_below s) s.script
