-- Acknowledgements as a list in the order of its codes, and one that is put in its place.
use Rattle.std.proofs.Common.{◌≡◌, ◌∙◌, ◌<◌, List, [], ◌∷◌, Bool, true, ◌==◌, nat_lt, if◌then◌else◌, length, refl, ap, arith}
use Rattle.std.proofs.lemmas.Bool.{and_parts, ltb-true}
use Rattle.stream_table.specs.CodeOrder.{CodesAreAbove, AscendsByCode, placed, finds_room}
use Rattle.stream_table.proofs.CodeOrder.{above_more, room_found}
use Rattle.lwb_base.specs.Messages.{Ask, code_of}
use Rattle.schedule_codec.specs.AckLists.{strictly_ascend}
use Rattle.bus_rules.specs.HostPlans.{with_ack}

above_first : (a b : Ask) (xs : List Ask) → code_of a < code_of b → CodesAreAbove code_of (code_of b) xs → CodesAreAbove code_of (code_of a) (b ∷ xs)
above_first a b xs less above = (less, above_more code_of (code_of a) (code_of b) xs (omega arith) above)

pub in_order : (xs : List Ask) → strictly_ascend xs ≡ true → AscendsByCode code_of xs
in_order [] up = tt
in_order (a ∷ []) up = (tt, tt)
in_order (a ∷ b ∷ xs) up =
    let parts = and_parts (nat_lt (code_of a) (code_of b)) (strictly_ascend (b ∷ xs)) up in
    let rest = in_order (b ∷ xs) parts.1 in
    (above_first a b xs (ltb-true (code_of a) (code_of b) parts.0) rest.0, rest)

placed_is : (a : Ask) (xs : List Ask) → placed code_of a xs ≡ with_ack a xs
placed_is a [] = refl
placed_is a (x ∷ xs) =
    ap (λ (l : List Ask). if code_of a == code_of x then a ∷ xs else if nat_lt (code_of a) (code_of x) then a ∷ x ∷ xs else x ∷ l) (placed_is a xs)

-- a list that is not full takes it
pub put_is : (a : Ask) (xs after : List Ask) → length xs < 4
    → after ≡ (if finds_room code_of 4 xs (code_of a) then placed code_of a xs else xs) → after ≡ with_ack a xs
put_is a xs after room is = is ∙ ap (λ (b : Bool). if b then placed code_of a xs else xs) (room_found code_of 4 (code_of a) xs room) ∙ placed_is a xs
