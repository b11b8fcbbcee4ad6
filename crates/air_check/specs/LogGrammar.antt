-- The lines of a recorded log: what they say, and the first line that is rejected.
use Rattle.std.specs.Prelude.{ℕ, ◌+◌, ◌-◌, ◌%◌, List, [], ◌∷◌, ◌++◌, Bool, ◌&&◌, ◌||◌, ◌==◌, nat_lt, nat_le, if◌then◌else◌, Some, None, Option, option_map}
use Rattle.lwb_base.specs.declared.limits.TheConstants.{LAST_RANK}
use Rattle.std.specs.Prelude.{Ok, Err, Result, length, take, drop, codes}
use Rattle.std.specs.Char.{is_ascii_hexdigit}
use Rattle.std.specs.List.{list_all}
use Rattle.std.specs.Option.{ok_or}
use Rattle.std.specs.Str.{is_utf8}
use Rattle.std.specs.Str.Lines.{lines}
use Rattle.scenario_text.specs.declared.lines.NodeLine.{NodeLine}
use Rattle.scenario_text.specs.FloodParts.{knows}
use Rattle.scenario_text.specs.Network.{is_id}
use Rattle.scenario_text.specs.Payloads.{hex_bytes}
use Rattle.scenario_text.specs.ScriptGrammar.{first_word_is}
use Rattle.scenario_text.specs.ScenarioParts.{ScenarioParts}
use Rattle.text_readers.specs.Faults.{spelled, ◌>>=◌, draft_after_lines}
use Rattle.text_readers.specs.Words.{words, word, is_skipped, is_number, number_at, line_of_words}
use Rattle.text_readers.specs.declared.fault.FaultKind.{FaultKind}
use Rattle.text_readers.specs.declared.fault.FaultKind.TheVariants.{NotUtf8, Range, UnknownNode}
use Rattle.air_log.specs.declared.entry.Entry.{Entry}
use Rattle.radio_model.specs.declared.sending.Sending.{Sending}
use Rattle.air_log.specs.declared.entry.HeardEntry.{HeardEntry}
use Rattle.air_log.specs.declared.entry.TunedEntry.{TunedEntry}
use Rattle.air_log.specs.declared.entry.Entry.TheVariants as entry

-- a line of a log, with its numbers as they are written. A packet is None where it has fewer than 3 or more than 125 bytes
pub data LogLine : Type 0 where
  -- a node transmits
  Sent : (rank node start end : ℕ) → Option (List ℕ) → LogLine
  -- a node receives what another one transmits
  Heard : (rank node from start end : ℕ) → Option (List ℕ) → LogLine
  -- the radio of a node is on
  Tuned : (rank node start end : ℕ) → LogLine

-- the words begin a line of a report, which is skipped whatever it holds
abbrev pub is_report : List (List ℕ) → Bool
is_report ws = first_word_is ws (codes "deliver") || (first_word_is ws (codes "drop") || first_word_is ws (codes "energy"))

-- an even count of hexadecimal digits of either case
abbrev pub is_hex : List ℕ → Bool
is_hex w = list_all is_ascii_hexdigit w && (length w % 2 == 0)

-- the packet that the digits spell, if it has 3 to 125 bytes
abbrev pub packet_of_bytes : List ℕ → Option (List ℕ)
packet_of_bytes bytes = if nat_le 3 (length bytes) && nat_le (length bytes) 125 then Some bytes else None

-- the words before the packet, and the packet, which is the last word
abbrev pub front : List (List ℕ) → List (List ℕ)
front ws = take (length ws - 1) ws

abbrev pub last_word : List (List ℕ) → List ℕ
last_word ws = word ws (length ws - 1)

-- what the words of a line say that ends with a packet
unfoldable pub sent_log_line : List (List ℕ) → Option LogLine
sent_log_line ws =
    let ns = front ws in
    if is_hex (last_word ws)
    then line_of_words 5 ns (Sent (number_at ns 1) (number_at ns 2) (number_at ns 3) (number_at ns 4) (packet_of_bytes (hex_bytes (last_word ws))))
    else None

unfoldable pub heard_log_line : List (List ℕ) → Option LogLine
heard_log_line ws =
    let ns = front ws in
    if is_hex (last_word ws)
    then line_of_words 6 ns
    (Heard (number_at ns 1) (number_at ns 2) (number_at ns 3) (number_at ns 4) (number_at ns 5) (packet_of_bytes (hex_bytes (last_word ws))))
    else None

-- what the words of a line say that has no packet
abbrev pub tuned_log_line : List (List ℕ) → Option LogLine
tuned_log_line ws = line_of_words 5 ws (Tuned (number_at ws 1) (number_at ws 2) (number_at ws 3) (number_at ws 4))

-- what the words say, if they are those of a line
unfoldable pub log_line : List (List ℕ) → Option LogLine
log_line ws =
    if first_word_is ws (codes "sent") then sent_log_line ws
    else if first_word_is ws (codes "heard") then heard_log_line ws
    else if first_word_is ws (codes "tuned") then tuned_log_line ws
    else None

-- the numbers of the line are spelled right
abbrev pub log_numbers : LogLine → List (List ℕ) → Bool
log_numbers (Sent r v a b p) ws = list_all is_number (drop 1 (front ws))
log_numbers (Heard r v u a b p) ws = list_all is_number (drop 1 (front ws))
log_numbers (Tuned r v a b) ws = list_all is_number (drop 1 ws)

-- the entry of a line whose numbers and packet are in their ranges: it ends after its start
abbrev pub sent_of : ℕ → ℕ → ℕ → ℕ → Option (List ℕ) → Option Sending
sent_of r v a b None = None
sent_of r v a b (Some p) = if nat_le r LAST_RANK && (is_id v && nat_lt a b) then Some (record { rank = r; node = v; start = a; end = b; packet = p }) else None

abbrev pub heard_of : ℕ → ℕ → ℕ → ℕ → ℕ → Option (List ℕ) → Option HeardEntry
heard_of r v u a b None = None
heard_of r v u a b (Some p) =
    if nat_le r LAST_RANK && (is_id v && (is_id u && nat_lt a b)) then Some (record { rank = r; node = v; from = u; start = a; end = b; packet = p }) else None

abbrev pub tuned_entry_of : ℕ → ℕ → ℕ → ℕ → Option TunedEntry
tuned_entry_of r v a b = if nat_le r LAST_RANK && (is_id v && nat_lt a b) then Some (record { rank = r; node = v; start = a; end = b }) else None

abbrev pub entry_of_line : LogLine → Option Entry
entry_of_line (Sent r v a b p) = option_map entry.Sent (sent_of r v a b p)
entry_of_line (Heard r v u a b p) = option_map entry.Heard (heard_of r v u a b p)
entry_of_line (Tuned r v a b) = option_map entry.Tuned (tuned_entry_of r v a b)

-- the ids are those of nodes
abbrev pub ids_are_known : List NodeLine → Entry → Bool
ids_are_known ns (entry.Sent x) = knows ns x.node
ids_are_known ns (entry.Heard h) = knows ns h.node && knows ns h.from
ids_are_known ns (entry.Tuned t) = knows ns t.node

-- Internal: the entry that the words say, if they are those of a line, or its fault, whatever nodes there are
abbrev pub entry_of_words : List (List ℕ) → Option LogLine → Result Entry FaultKind
entry_of_words ws line = do
  l ← spelled line (λ l. log_numbers l ws)
  ok_or (entry_of_line l) Range

-- after a line that the words say, if they are those of one, or its fault
abbrev pub entries_after_line : List NodeLine → List Entry → List (List ℕ) → Option LogLine → Result (List Entry) FaultKind
entries_after_line ns air ws line = do
  l ← spelled line (λ l. log_numbers l ws)
  e ← ok_or (entry_of_line l) Range
  if ids_are_known ns e then Ok (air ++ e ∷ []) else Err UnknownNode

-- after a line of these words, or its fault
unfoldable pub entries_after_words : List NodeLine → List Entry → List (List ℕ) → Result (List Entry) FaultKind
entries_after_words ns air ws = entries_after_line ns air ws (log_line ws)

-- after a line, or its fault. A line that is skipped may hold any bytes
unfoldable pub after_log_line : List NodeLine → List Entry → List ℕ → Result (List Entry) FaultKind
after_log_line ns air line =
    let ws = words line in
    if is_report ws || is_skipped ws then Ok air else if is_utf8 line then entries_after_words ns air ws else Err NotUtf8

-- the entries that the bytes say in the order of their lines, or the first fault and its line, where `before` lines are above
abbrev pub log_of : ScenarioParts → ℕ → List ℕ → Result (List Entry) (ℕ × FaultKind)
log_of s before bytes = draft_after_lines (after_log_line s.nodes) (before + 1) [] (lines bytes)
