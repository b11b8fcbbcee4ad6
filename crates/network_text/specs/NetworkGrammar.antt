-- The text of a network: the lines of a scenario, and after a line `ratios` the reception ratios of its links.
use Rattle.std.specs.Prelude.{ℕ, ◌+◌, List, [], ◌∷◌, ◌++◌, Bool, true, ◌&&◌, nat_lt, nat_le, if◌then◌else◌, None, Option, Ok, Err, Result}
use Rattle.std.specs.Prelude.{length, take, drop, codes}
use Rattle.std.specs.List.{list_all}
use Rattle.std.specs.Option.{option_map_or}
use Rattle.std.specs.Str.Lines.{lines}
use Rattle.text_readers.specs.Divisions.{count_above}
use Rattle.text_readers.specs.Faults.{first_fault, unless_fault, spelled, ◌>>=◌, draft_after_lines}
use Rattle.text_readers.specs.Reading.{draft_after_line}
use Rattle.text_readers.specs.Words.{is_number, number_at, line_of_words}
use Rattle.text_readers.specs.declared.fault.FaultKind.{FaultKind}
use Rattle.text_readers.specs.declared.fault.FaultKind.TheVariants.{Range, UnknownNode, Order, TooMany}
use Rattle.text_readers.specs.declared.fault.ParseFault.{ParseFault}
use Rattle.scenario_text.specs.FloodParts.{knows}
use Rattle.scenario_text.specs.Network.{are_ends, has_link}
use Rattle.scenario_text.specs.ScenarioGrammar.{long_limits, scenario_of_lines}
use Rattle.scenario_text.specs.ScenarioParts.{ScenarioParts}
use Rattle.scenario_text.specs.ScriptGrammar.{first_word_is}
use Rattle.drawn_links.specs.RatioTables.{Rated, last_frame}
use Rattle.drawn_links.specs.declared.ratio_line.RatioLine.{RatioLine}
use Rattle.network_text.specs.declared.limits.TheConstants.{GREATEST_RATIO, MOST_RATIO_LINES}

-- what the words of a line say, if they are those of one: a frame, the ids of a sender and a receiver, and a ratio
abbrev pub ratio_numbers : List (List ℕ) → Option (ℕ × ℕ × ℕ × ℕ)
ratio_numbers ws =
    if first_word_is ws (codes "ratio") then line_of_words 5 ws (number_at ws 1, number_at ws 2, number_at ws 3, number_at ws 4) else None

abbrev pub line_of : ℕ × ℕ × ℕ × ℕ → RatioLine
line_of n = record { frame = n.0; from = n.1; to = n.2; ratio = n.3 }

-- the frame is one of the scenario, the ids differ, and the ratio is at most a million
abbrev pub is_in_range : ScenarioParts → RatioLine → Bool
is_in_range s l = nat_lt l.frame s.frames && are_ends l.from l.to && nat_le l.ratio GREATEST_RATIO

-- the trace has the link, and its last ratio is from an earlier frame on
abbrev pub is_in_order : ScenarioParts → List RatioLine → RatioLine → Bool
is_in_order s above l = has_link s.trace l.from l.to && option_map_or (λ f. nat_lt f l.frame) (last_frame above l.from l.to) true

-- the fault of a line that is spelled right, below these
abbrev pub ratio_fault : ScenarioParts → List RatioLine → RatioLine → Option FaultKind
ratio_fault s above l =
    first_fault
    ((is_in_range s l, Range) ∷ (knows s.nodes l.from && knows s.nodes l.to, UnknownNode) ∷ (is_in_order s above l, Order)
    ∷ (nat_lt (length above) MOST_RATIO_LINES, TooMany) ∷ [])

-- after a line that is spelled right, or its fault
abbrev pub after_ratio : ScenarioParts → List RatioLine → RatioLine → Result (List RatioLine) FaultKind
after_ratio s above l = unless_fault (ratio_fault s above l) (above ++ l ∷ [])

-- after a line of these words, or its fault
unfoldable pub ratios_after_words : ScenarioParts → List RatioLine → List (List ℕ) → Result (List RatioLine) FaultKind
ratios_after_words s above ws = do
  n ← spelled (ratio_numbers ws) (λ n. list_all is_number (drop 1 ws))
  after_ratio s above (line_of n)

-- what these lines say, of which the first is line n
abbrev pub ratios_of_lines : ScenarioParts → ℕ → List (List ℕ) → Result (List RatioLine) (ℕ × FaultKind)
ratios_of_lines s n ls = draft_after_lines (draft_after_line (ratios_after_words s)) n [] ls

-- what the bytes say, where `before` lines are above
abbrev pub ratios_of : ScenarioParts → ℕ → List ℕ → Result (List RatioLine) (ℕ × FaultKind)
ratios_of s before bytes = ratios_of_lines s (before + 1) (lines bytes)

-- what the line `ratios` and the lines after it say, where n lines are above: without it there are no ratios
abbrev pub ratios_below : ScenarioParts → ℕ → List (List ℕ) → Result (List RatioLine) (ℕ × FaultKind)
ratios_below s n [] = Ok []
ratios_below s n (first ∷ ls) = ratios_of_lines s (n + 2) ls

-- the scenario over the long horizon, and the ratios of its links, or the first fault and its line. The first line `ratios` divides them
abbrev pub network_of : List ℕ → Result (ScenarioParts × List RatioLine) (ℕ × FaultKind)
network_of bytes =
    let ls = lines bytes in
    let above = count_above (codes "ratios") ls in do
      s ← scenario_of_lines long_limits (take above ls)
      ratios ← ratios_below s above (drop above ls)
      Ok (s, ratios)

-- the lines of what was read
abbrev pub lines_read : Result Rated ParseFault → Result (List RatioLine) ParseFault
lines_read (Ok r) = Ok r.lines
lines_read (Err e) = Err e

-- the scenario and the lines
abbrev pub network_read : Result (ScenarioParts × Rated) ParseFault → Result (ScenarioParts × List RatioLine) ParseFault
network_read (Ok t) = Ok (t.0, t.1.lines)
network_read (Err e) = Err e
