-- A text to be checked: the lines of a scenario, a line `log`, and the lines of a log.
use Rattle.std.specs.Prelude.{ℕ, ◌+◌, List, [], ◌∷◌, Ok, Err, Result, take, drop, codes}
use Rattle.std.specs.Str.Lines.{lines}
use Rattle.scenario_text.specs.ScenarioGrammar.{run_limits, scenario_of_lines}
use Rattle.scenario_text.specs.ScenarioParts.{ScenarioParts}
use Rattle.text_readers.specs.Divisions.{count_above}
use Rattle.text_readers.specs.Faults.{◌>>=◌, draft_after_lines}
use Rattle.text_readers.specs.declared.fault.FaultKind.{FaultKind}
use Rattle.text_readers.specs.declared.fault.FaultKind.TheVariants.{Missing}
use Rattle.air_log.specs.declared.entry.Entry.{Entry}
use Rattle.air_check.specs.LogGrammar.{after_log_line}

-- what the line `log` and the lines after it say, where n lines are above. Without them it is missing after the last line
abbrev pub log_in : ScenarioParts → ℕ → List (List ℕ) → Result (List Entry) (ℕ × FaultKind)
log_in s n [] = Err (n + 1, Missing)
log_in s n (first ∷ ls) = draft_after_lines (after_log_line s.nodes) (n + 2) [] ls

-- the scenario and its log, or the first fault and its line. The first line whose only word is `log` divides them
abbrev pub checked_text : List ℕ → Result (ScenarioParts × List Entry) (ℕ × FaultKind)
checked_text bytes =
    let ls = lines bytes in
    let above = count_above (codes "log") ls in do
      s ← scenario_of_lines run_limits (take above ls)
      air ← log_in s above (drop above ls)
      Ok (s, air)
