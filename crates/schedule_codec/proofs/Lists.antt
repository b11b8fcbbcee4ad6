-- Ascending lists with one more at their end.
use Rattle.std.proofs.Common.{◌&&◌, ◌≡◌, ℕ, zero, suc, ◌-◌, ◌<◌, ◌≤◌, List, [], ◌∷◌, ◌++◌, Bool, true, Option, Some, None}
use Rattle.std.proofs.Common.{length, slice_get, get_or, refl, sym, ◌∙◌, ap, arith, length-append, nat_le, nat_lt}
use Rattle.std.proofs.lemmas.Bool.{and_parts, and_from, ltb-true, leb-true, le-leb}
use Rattle.std.proofs.lemmas.List.Folds.{list_all-append}
use Rattle.std.specs.List.{list_all}
use Rattle.std.specs.Option.{SomeIff}
use Rattle.lwb_base.specs.Messages.{Ask}
use Rattle.lwb_packets.specs.Ranges.{between}
use Rattle.schedule_codec.specs.AckLists as acks
use Rattle.schedule_codec.specs.OwnerLists as owners

-- the last of a list of two and more is that of its rest
pub last_of_rest : {X : Type 0} (x y : X) (xs : List X) → slice_get (x ∷ y ∷ xs) (length (x ∷ y ∷ xs) - 1) ≡ slice_get (y ∷ xs) (length (y ∷ xs) - 1)
last_of_rest x y xs =
    let whole : suc (suc (length xs)) - 1 ≡ suc (length xs) = omega arith in
    let rest : length xs ≡ suc (length xs) - 1 = omega arith in
    ap (λ i. slice_get (x ∷ y ∷ xs) i) whole ∙ ap (λ i. slice_get (y ∷ xs) i) rest

pub acks_push : (qs : List Ask) (a : Ask) → acks.strictly_ascend qs ≡ true → acks.may_follow (slice_get qs (length qs - 1)) a ≡ true
    → acks.strictly_ascend (qs ++ a ∷ []) ≡ true
acks_push [] a ascend follows = refl
acks_push (b ∷ []) a ascend follows = and_from _ _ follows refl
acks_push (b ∷ d ∷ qs) a ascend follows =
    let both = and_parts _ _ ascend in
    and_from _ _ both.0 (acks_push (d ∷ qs) a both.1 (ap (λ o. acks.may_follow o a) (sym (last_of_rest b d qs)) ∙ follows))

pub codes_push : (cs : List ℕ) (c : ℕ) → owners.ascend cs ≡ true → owners.may_follow (slice_get cs (length cs - 1)) c ≡ true
    → owners.ascend (cs ++ c ∷ []) ≡ true
codes_push [] c ascend follows = refl
codes_push (b ∷ []) c ascend follows = and_from _ _ follows refl
codes_push (b ∷ d ∷ cs) c ascend follows =
    let both = and_parts _ _ ascend in
    and_from _ _ both.0 (codes_push (d ∷ cs) c both.1 (ap (λ o. owners.may_follow o c) (sym (last_of_rest b d cs)) ∙ follows))

-- what a list takes keeps it in order
pub are_acks_push : (qs : List Ask) (a : Ask) → acks.are_acks qs ≡ true → acks.takes_ack qs a ≡ true → acks.are_acks (qs ++ a ∷ []) ≡ true
are_acks_push qs a are takes =
    let both : (nat_le (length qs) 4 ≡ true) × (acks.strictly_ascend qs ≡ true) = and_parts _ _ are in
    let may : (nat_lt (length qs) 4 ≡ true) × (acks.may_follow (slice_get qs (length qs - 1)) a ≡ true) = and_parts _ _ takes in
    let room = ltb-true (length qs) 4 may.0 in
    let few : length (qs ++ a ∷ []) ≤ 4 = omega (arith, length-append qs (a ∷ [])) in
    and_from _ _ (le-leb (length (qs ++ a ∷ [])) 4 few) (acks_push qs a both.1 may.1)

pub are_owners_push : (cs : List ℕ) (c : ℕ) → owners.are_owners cs ≡ true → 4 ≤ c → c ≤ 803 → owners.takes_owner cs c ≡ true
    → owners.are_owners (cs ++ c ∷ []) ≡ true
are_owners_push cs c are low high takes =
    let both : ((nat_le (length cs) 40 && list_all (between 4 803) cs) ≡ true) × (owners.ascend cs ≡ true) = and_parts _ _ are in
    let first : (nat_le (length cs) 40 ≡ true) × (list_all (between 4 803) cs ≡ true) = and_parts _ _ both.0 in
    let may : (nat_lt (length cs) 40 ≡ true) × (owners.may_follow (slice_get cs (length cs - 1)) c ≡ true) = and_parts _ _ takes in
    let room = ltb-true (length cs) 40 may.0 in
    let few : length (cs ++ c ∷ []) ≤ 40 = omega (arith, length-append cs (c ∷ [])) in
    let within : between 4 803 c ≡ true = and_from _ _ (le-leb 4 c low) (le-leb c 803 high) in
    let all : list_all (between 4 803) (cs ++ c ∷ []) ≡ true = list_all-append (between 4 803) cs (c ∷ []) ∙ and_from _ _ first.1 (and_from _ _ within refl) in
    and_from _ _ (and_from _ _ (le-leb (length (cs ++ c ∷ [])) 40 few) all) (codes_push cs c both.1 may.1)

-- an element of a list that passes
pub passes_at : {X : Type 0} (p : X → Bool) (xs : List X) (i : ℕ) (d : X) → list_all p xs ≡ true → i < length xs → p (get_or xs i d) ≡ true
passes_at p [] i d all below = absurd (omega arith)
passes_at p (x ∷ xs) zero d all below = (and_parts _ _ all).0
passes_at p (x ∷ xs) (suc i) d all below = passes_at p xs i d (and_parts _ _ all).1 (omega arith)

in_bounds : (cs : List ℕ) (i : ℕ) → owners.are_owners cs ≡ true → i < length cs → (4 ≤ get_or cs i 0) × (get_or cs i 0 ≤ 803)
in_bounds cs i are below =
    let all = (and_parts _ _ (and_parts _ _ are).0).1 in
    let within = and_parts _ _ (passes_at (between 4 803) cs i 0 all below) in
    (leb-true 4 _ within.0, leb-true _ 803 within.1)

get_at : (cs : List ℕ) (i : ℕ) → i < length cs → slice_get cs i ≡ Some (get_or cs i 0)
get_at [] i below = absurd (omega arith)
get_at (c ∷ cs) zero below = refl
get_at (c ∷ cs) (suc i) below = get_at cs i (omega arith)

-- the code at a place is an owner's
pub owner_at : (cs : List ℕ) (i : ℕ) (o : Option ℕ) → owners.are_owners cs ≡ true → i < length cs
    → SomeIff o ((4 ≤ get_or cs i 0) × (get_or cs i 0 ≤ 803)) (get_or cs i 0) → o ≡ slice_get cs i
owner_at cs i None are below none = absurd (none (in_bounds cs i are below))
owner_at cs i (Some c) are below is = ap (λ x. Some x) is.1 ∙ sym (get_at cs i below)
