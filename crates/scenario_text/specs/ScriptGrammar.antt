-- What the words of a line of the script say, or of one that names a step of a flood, and what a node then has to do.
use Rattle.std.specs.Prelude.{ℕ, List, Bool, true, false, ◌&&◌, nat_le, if◌then◌else◌, Some, None, Option, length, drop, codes, option_map}
use Rattle.std.specs.List.{list_all}
use Rattle.std.specs.Option.{option_map_or}
use Rattle.std.specs.Str.{bytes_eq}
use Rattle.lwb_base.specs.Profile.{Numbers}
use Rattle.text_readers.specs.Words.{word, is_number, number_at, line_of_words}
use Rattle.scenario_text.specs.Network.{network_line}
use Rattle.scenario_text.specs.Payloads.{is_payload, payload}
use Rattle.scenario_text.specs.declared.scenario_line.ScenarioLine.{ScenarioLine}
use Rattle.scenario_text.specs.declared.scenario_line.ScenarioLine.TheVariants.{InNetwork, Script, Lose, Cut, Capture}
use Rattle.scenario_text.specs.declared.written_act.WrittenAct.{WrittenAct}
use Rattle.scenario_text.specs.declared.written_act.WrittenAct.TheVariants.{On, Off, Stream, Leave, Put}
use Rattle.bus_rules.specs.declared.act.Act.{Act}
use Rattle.bus_rules.specs.declared.act.Act.TheVariants as act

abbrev pub first_word_is : List (List ℕ) → List ℕ → Bool
first_word_is ws letters = bytes_eq (word ws 0) letters

-- a line that names a step, or one that flood texts have too
unfoldable pub step_line : List (List ℕ) → Option ScenarioLine
step_line ws =
    if first_word_is ws (codes "lose") then line_of_words 6 ws (Lose (number_at ws 1) (number_at ws 2) (number_at ws 3) (number_at ws 4) (number_at ws 5))
    else if first_word_is ws (codes "cut") then line_of_words 5 ws (Cut (number_at ws 1) (number_at ws 2) (number_at ws 3) (number_at ws 4))
    else if first_word_is ws (codes "capture") then line_of_words 6 ws
    (Capture (number_at ws 1) (number_at ws 2) (number_at ws 3) (number_at ws 4) (number_at ws 5))
    else option_map InNetwork (network_line ws)

-- a line of the script: in this frame, for this node
abbrev pub script_of : List (List ℕ) → WrittenAct → ScenarioLine
script_of ws a = Script (number_at ws 1) (number_at ws 2) a

-- what the words after `put` say, if they are those of such a line
unfoldable pub put_line : List (List ℕ) → Option ScenarioLine
put_line ws = if is_payload (word ws 4) then line_of_words 5 ws (script_of ws (Put (number_at ws 3) (payload (word ws 4)))) else None

-- a line of the script, or one of those
unfoldable pub script_line : List (List ℕ) → Option ScenarioLine
script_line ws =
    if first_word_is ws (codes "on") then line_of_words 3 ws (script_of ws On)
    else if first_word_is ws (codes "off") then line_of_words 3 ws (script_of ws Off)
    else if first_word_is ws (codes "stream") then line_of_words 5 ws (script_of ws (Stream (number_at ws 3) (number_at ws 4)))
    else if first_word_is ws (codes "leave") then line_of_words 4 ws (script_of ws (Leave (number_at ws 3)))
    else if first_word_is ws (codes "put") then put_line ws
    else step_line ws

-- the numbers of such a line are spelled right
abbrev pub act_numbers : WrittenAct → List (List ℕ) → Bool
act_numbers (Put s p) ws = is_number (word ws 1) && is_number (word ws 2) && is_number (word ws 3)
act_numbers other ws = list_all is_number (drop 1 ws)

abbrev pub is_short : Numbers → Option (List ℕ) → Bool
is_short p payload = option_map_or (λ bytes. nat_le (length bytes) p.payload_max) payload false

-- its numbers but for the frame and the id are in their ranges
abbrev pub act_in_range : Numbers → WrittenAct → Bool
act_in_range p On = true
act_in_range p Off = true
act_in_range p (Stream s n) = nat_le s 3 && nat_le 1 n && nat_le n 120
act_in_range p (Leave s) = nat_le s 3
act_in_range p (Put s payload) = nat_le s 3 && is_short p payload

-- what the node has to do. A payload that is too long for any packet is none
abbrev pub act_of : WrittenAct → Option Act
act_of On = Some act.On
act_of Off = Some act.Off
act_of (Stream s n) = Some (act.Declare s n)
act_of (Leave s) = Some (act.Leave s)
act_of (Put s payload) = option_map (act.Put s) payload
