-- Flood text: what its lines say, and the first line that is rejected.
use Rattle.std.specs.Prelude.{ℕ, ◌+◌, List, [], ◌∷◌, Bool, not, ◌&&◌, nat_le, if◌then◌else◌, Some, None}
use Rattle.std.specs.Prelude.{Option, is_none, Result, length, drop, codes, option_map}
use Rattle.std.specs.List.{list_all}
use Rattle.std.specs.Option.{ok_or}
use Rattle.std.specs.Str.{bytes_eq}
use Rattle.std.specs.Str.Lines.{lines}
use Rattle.lwb_base.specs.declared.limits.TheConstants.{LAST_STEP, MOST_SCRIPT_LINES}
use Rattle.scenario_text.specs.FloodParts.{FloodParts, knows}
use Rattle.text_readers.specs.Faults.{first_fault, unless_fault, spelled, in_line, ◌>>=◌, draft_after_lines}
use Rattle.text_readers.specs.Reading.{draft_after_line}
use Rattle.text_readers.specs.Words.{word, is_number, number_at, line_of_words}
use Rattle.scenario_text.specs.Network.{DraftedNetwork, Parts, network_parts, network_line, network_numbers, no_network, is_id, are_ends}
use Rattle.scenario_text.specs.Network.{network_fault, has_loss, has_script_room, with_network_line, with_loss_at, with_script_line}
use Rattle.text_readers.specs.declared.fault.FaultKind.{FaultKind}
use Rattle.text_readers.specs.declared.fault.FaultKind.TheVariants.{Range, UnknownNode, Twice, TooMany, Missing}
use Rattle.scenario_text.specs.declared.flood_line.FloodLine.{FloodLine}
use Rattle.scenario_text.specs.declared.flood_line.FloodLine.TheVariants.{InNetwork, Lose, Start}

-- what the words say, if they are those of a line
unfoldable pub flood_line : List (List ℕ) → Option FloodLine
flood_line ws =
    if bytes_eq (word ws 0) (codes "lose") then line_of_words 4 ws (Lose (number_at ws 1) (number_at ws 2) (number_at ws 3))
    else if bytes_eq (word ws 0) (codes "start") then line_of_words 2 ws (Start (number_at ws 1))
    else option_map InNetwork (network_line ws)

-- the numbers of the line are spelled right
abbrev pub flood_numbers : FloodLine → List (List ℕ) → Bool
flood_numbers (InNetwork l) ws = network_numbers l ws
flood_numbers (Lose k u v) ws = list_all is_number (drop 1 ws)
flood_numbers (Start i) ws = list_all is_number (drop 1 ws)

-- what the lines above say
pub record Flood : Type 0 where
  pub network : DraftedNetwork
  pub start : Option ℕ

abbrev pub no_flood : Flood
no_flood = record { network = no_network MOST_SCRIPT_LINES; start = None }

-- the fault of a line that is spelled right
abbrev pub rule_fault : Flood → FloodLine → Option FaultKind
rule_fault f (InNetwork l) = network_fault 1048576000000 f.network l
rule_fault f (Lose k u v) =
    first_fault
    ((nat_le k LAST_STEP && are_ends u v, Range) ∷ (knows f.network.nodes u && knows f.network.nodes v, UnknownNode)
    ∷ (not (has_loss f.network.trace 5 1 k u v), Twice) ∷ (has_script_room f.network, TooMany) ∷ [])
rule_fault f (Start i) = first_fault ((is_id i, Range) ∷ (knows f.network.nodes i, UnknownNode) ∷ (is_none f.start, Twice) ∷ [])

-- what the lines say with an allowed line more
abbrev pub with_flood_line : Flood → FloodLine → Flood
with_flood_line f (InNetwork l) = record f { network = with_network_line f.network l }
with_flood_line f (Lose k u v) = record f { network = with_script_line f.network (with_loss_at 5 1 k u v f.network.trace) }
with_flood_line f (Start i) = record f { start = Some i }

-- after a line that is spelled right, or its fault
abbrev pub after_spelled : Flood → FloodLine → Result Flood FaultKind
after_spelled f l = unless_fault (rule_fault f l) (with_flood_line f l)

-- after a line of these words, or its fault
unfoldable pub flood_after_words : Flood → List (List ℕ) → Result Flood FaultKind
flood_after_words f ws = do
  l ← spelled (flood_line ws) (λ l. flood_numbers l ws)
  after_spelled f l

-- what a whole text says, which has transmissions, two nodes at least, and a start
abbrev pub flood_of_parts : Option Parts → Option ℕ → Option FloodParts
flood_of_parts (Some p) (Some s) = Some (record { sends = p.sends; nodes = p.nodes; rates = p.rates; trace = p.trace; start = s })
flood_of_parts None start = None
flood_of_parts (Some p) None = None

abbrev pub whole_flood : Flood → Result FloodParts FaultKind
whole_flood f = ok_or (flood_of_parts (network_parts f.network f.network.sends) f.start) Missing

-- what the bytes say, or their first fault and its line. What is missing is missing after the last line
abbrev pub flood_of : List ℕ → Result FloodParts (ℕ × FaultKind)
flood_of bytes = do
  f ← draft_after_lines (draft_after_line flood_after_words) 1 no_flood (lines bytes)
  in_line (length (lines bytes) + 1) (whole_flood f)
