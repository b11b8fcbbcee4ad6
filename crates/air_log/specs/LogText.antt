-- The log text: a line for each entry, by start, then kind in the order sent, heard, tuned, then node.
-- Entries that this order leaves equal stay in the log's order.
use Rattle.std.specs.Prelude.{ℕ, List, [], ◌∷◌, ◌++◌, Bool, codes, flat_map}
use Rattle.std.specs.Ordering.{nat_cmp, ordering_then, is_lt}
use Rattle.text_writers.specs.Lines.{line_text, numbered}
use Rattle.text_writers.specs.HexWords.{hex_word}
use Rattle.air_log.specs.Entries.{node_of_entry}
use Rattle.air_log.specs.declared.entry.Entry.{Entry}
use Rattle.air_log.specs.declared.entry.Entry.TheVariants.{Sent, Heard, Tuned}
use Rattle.radio_model.specs.declared.sending.Sending.{Sending}
use Rattle.air_log.specs.declared.entry.HeardEntry.{HeardEntry}
use Rattle.air_log.specs.declared.entry.TunedEntry.{TunedEntry}
use Rattle.lwb_base.specs.Sorting.{in_order}

abbrev pub start_of : Entry → ℕ
start_of (Sent x) = x.start
start_of (Heard h) = h.start
start_of (Tuned t) = t.start

abbrev pub kind_number : Entry → ℕ
kind_number (Sent x) = 0
kind_number (Heard h) = 1
kind_number (Tuned t) = 2

-- by start, then kind, then node
abbrev pub entry_is_before : Entry → Entry → Bool
entry_is_before a b = is_lt
    (ordering_then (ordering_then (nat_cmp (start_of a) (start_of b)) (nat_cmp (kind_number a) (kind_number b))) (nat_cmp (node_of_entry a) (node_of_entry b)))

abbrev pub sent_line : Sending → List ℕ
sent_line x = line_text (numbered (codes "sent") (x.rank ∷ x.node ∷ x.start ∷ x.end ∷ []) ++ hex_word x.packet ∷ [])

abbrev pub heard_line : HeardEntry → List ℕ
heard_line h = line_text (numbered (codes "heard") (h.rank ∷ h.node ∷ h.from ∷ h.start ∷ h.end ∷ []) ++ hex_word h.packet ∷ [])

abbrev pub tuned_line : TunedEntry → List ℕ
tuned_line t = line_text (numbered (codes "tuned") (t.rank ∷ t.node ∷ t.start ∷ t.end ∷ []))

abbrev pub entry_line : Entry → List ℕ
entry_line (Sent x) = sent_line x
entry_line (Heard h) = heard_line h
entry_line (Tuned t) = tuned_line t

abbrev pub log_text : List Entry → List ℕ
log_text air = flat_map entry_line (in_order entry_is_before air)
