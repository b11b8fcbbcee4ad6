-- The entries of a table as a list in the order of its codes.
use Rattle.std.proofs.Common.{◌≡◌, ◌∙◌, ℕ, ◌≤◌, List, [], ◌∷◌, Bool, true, false, not, ◌&&◌, ◌||◌, ◌==◌, nat_lt}
use Rattle.std.proofs.Common.{if◌then◌else◌, is_some, is_none, length, Option, Some, None, refl, ap}
use Rattle.stream_table.specs.CodeOrder as order
use Rattle.bus_rules.specs.Tables.{TableEntry, EntriesAreAbove, EntriesAscend, AreEntries, code_in, entry_of, with_entry}
use Rattle.stream_table.specs.Entries.{is_full_for}

above_in : (c : ℕ) (es : List TableEntry) → EntriesAreAbove c es → order.CodesAreAbove code_in c es
above_in c [] above = tt
above_in c (e ∷ es) above = (above.0, above_in c es above.1)

pub in_order : (es : List TableEntry) → EntriesAscend es → order.AscendsByCode code_in es
in_order [] up = tt
in_order (e ∷ es) up = (above_in e.code es up.0, in_order es up.1)

above_out : (c : ℕ) (es : List TableEntry) → order.CodesAreAbove code_in c es → EntriesAreAbove c es
above_out c [] above = tt
above_out c (e ∷ es) above = (above.0, above_out c es above.1)

pub out_order : (es : List TableEntry) → order.AscendsByCode code_in es → EntriesAscend es
out_order [] up = tt
out_order (e ∷ es) up = (above_out e.code es up.0, out_order es up.1)

pub are_again : (es : List TableEntry) → length es ≤ 32 → order.AscendsByCode code_in es → AreEntries es
are_again es few up = record { few = few; ascends = out_order es up }

pub placed_is : (e : TableEntry) (es : List TableEntry) → order.placed code_in e es ≡ with_entry e es
placed_is e [] = refl
placed_is e (x ∷ es) = ap (λ (l : List TableEntry). if e.code == x.code then e ∷ es else if nat_lt e.code x.code then e ∷ x ∷ es else x ∷ l) (placed_is e es)

by_room : (o : Option TableEntry) (room : Bool) (xs ys old : List TableEntry) → xs ≡ ys
    → (if is_some o || room then xs else old) ≡ (if is_none o && not room then old else ys)
by_room None true xs ys old same = same
by_room None false xs ys old same = refl
by_room (Some x) room xs ys old same = same

pub put_is : (e : TableEntry) (es after : List TableEntry) → after ≡ (if order.finds_room code_in 32 es e.code then order.placed code_in e es else es)
    → after ≡ (if is_full_for es e.code then es else with_entry e es)
put_is e es after is = is ∙ by_room (entry_of es e.code) (nat_lt (length es) 32) (order.placed code_in e es) (with_entry e es) es (placed_is e es)
