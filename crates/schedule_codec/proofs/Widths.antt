-- The least width of numbers, and the differences of codes.
use Rattle.std.proofs.Common.{◌≡◌, ℕ, zero, suc, ◌+◌, ◌-◌, ◌<◌, ◌≤◌, List, [], ◌∷◌, Bool, true, false}
use Rattle.std.proofs.Common.{length, take, drop, get_or, refl, ◌∙◌, ap, subst, arith, nat_le}
use Rattle.std.proofs.lemmas.Bool.{and_parts, and_from, leb-true, lt-ltb, cond-true, cond-false, cond_both}
use Rattle.std.proofs.lemmas.List.{drop_more, take_all}
use Rattle.std.specs.List.{list_all}
use Rattle.lwb_packets.specs.Ranges.{between}
use Rattle.schedule_codec.specs.Packing.{fit}
use Rattle.schedule_codec.specs.OwnerLists.{are_owners, ascend, differences, least_passing, width_of}

-- one step of the search for the least
pub least_here : (n w : ℕ) (passes : ℕ → Bool) → w < n → passes w ≡ true → least_passing (n - w) w passes ≡ w
unfolding least_passing
least_here n w passes below pass =
    let more : n - w ≡ suc (n - (w + 1)) = omega arith in
    ap (λ k. least_passing k w passes) more ∙ cond-true (passes w) w (least_passing (n - (w + 1)) (w + 1) passes) pass

pub least_further : (n w : ℕ) (passes : ℕ → Bool) → w < n → passes w ≡ false → least_passing (n - w) w passes ≡ least_passing (n - (w + 1)) (w + 1) passes
unfolding least_passing
least_further n w passes below fails =
    let more : n - w ≡ suc (n - (w + 1)) = omega arith in
    ap (λ k. least_passing k w passes) more ∙ cond-false (passes w) w (least_passing (n - (w + 1)) (w + 1) passes) fails

pub least_at_end : (n w : ℕ) (passes : ℕ → Bool) → w ≡ n → least_passing (n - w) w passes ≡ n
unfolding least_passing
least_at_end n w passes is =
    let none : n - w ≡ 0 = omega arith in
    ap (λ k. least_passing k w passes) none ∙ is

-- the least passes, where the last one does
pub least_passes : (n w : ℕ) (passes : ℕ → Bool) → passes (w + n) ≡ true → (passes (least_passing n w passes) ≡ true) × (least_passing n w passes ≤ w + n)
unfolding least_passing
least_passes zero w passes last = let same : w + 0 ≡ w = omega arith in (subst (λ k. passes k ≡ true) same last, omega arith)
least_passes (suc n) w passes last =
    let same : w + suc n ≡ (w + 1) + n = omega arith in
    let rest = least_passes n (w + 1) passes (subst (λ k. passes k ≡ true) same last) in
    cond_both (passes w) w (least_passing n (w + 1) passes) (λ k. (passes k ≡ true) × (k ≤ w + suc n)) (λ pass. (pass, omega arith))
    (λ fails. (rest.0, omega (arith, rest.1)))

-- the next code, from the last
pub next_code : (last : ℕ) (rest : List ℕ) (i : ℕ) → i < length rest → ascend (last ∷ drop i rest) ≡ true
    → (last ≤ get_or rest i 0) × (ascend (get_or rest i 0 ∷ drop (i + 1) rest) ≡ true)
    × (differences (last ∷ drop i rest) ≡ (get_or rest i 0 - last) ∷ differences (get_or rest i 0 ∷ drop (i + 1) rest))
next_code last rest i below ascending =
    let more = drop_more rest i 0 below in
    let parts = and_parts _ _ (subst (λ (l : List ℕ). ascend (last ∷ l) ≡ true) more ascending) in
    (leb-true last (get_or rest i 0) parts.0, parts.1, ap (λ (l : List ℕ). differences (last ∷ l)) more)

pub length-differences : (c : ℕ) (cs : List ℕ) → length (differences (c ∷ cs)) ≡ length cs
length-differences c [] = refl
length-differences c (d ∷ cs) = ap suc (length-differences d cs)

-- a difference of two codes fits 10 bits
pub differences_fit : (c : ℕ) (cs : List ℕ) → list_all (between 4 803) cs ≡ true → fit 10 (differences (c ∷ cs)) ≡ true
differences_fit c [] all = refl
differences_fit c (d ∷ cs) all =
    let both : (between 4 803 d ≡ true) × (list_all (between 4 803) cs ≡ true) = and_parts _ _ all in
    let within : (nat_le 4 d ≡ true) × (nat_le d 803 ≡ true) = and_parts _ _ both.0 in
    let high = leb-true d 803 within.1 in
    let small : d - c < 1024 = omega (arith, high) in
    and_from _ _ (lt-ltb (d - c) 1024 small) (differences_fit d cs both.1)

-- what a slice pattern takes apart
pub first_and_rest : (cs : List ℕ) → 1 ≤ length cs → get_or cs 0 0 ∷ take (length cs - 1) (drop 1 cs) ≡ cs
first_and_rest [] some = absurd (omega arith)
first_and_rest (c ∷ cs) some = ap (λ (l : List ℕ). c ∷ l) (take_all (length (c ∷ cs) - 1) cs (omega arith))

-- the parts of a list of owners
pub record Codes (c : ℕ) (cs : List ℕ) : Type 0 where
  pub first : (4 ≤ c) × (c ≤ 803)
  pub others : list_all (between 4 803) cs ≡ true
  pub ascending : ascend (c ∷ cs) ≡ true
  pub few : length cs ≤ 39

pub codes_of : (c : ℕ) (cs : List ℕ) → are_owners (c ∷ cs) ≡ true → Codes c cs
codes_of c cs are =
    let both = and_parts _ _ are in
    let front = and_parts _ _ both.0 in
    let all = and_parts _ _ front.1 in
    let within = and_parts _ _ all.0 in
    let few : length (c ∷ cs) ≤ 40 = leb-true (length (c ∷ cs)) 40 front.0 in
    record { first = (leb-true 4 c within.0, leb-true c 803 within.1); others = all.1; ascending = both.1; few = omega (arith, few) }

pub width_fits : (ds : List ℕ) → fit 10 ds ≡ true → (fit (width_of ds) ds ≡ true) × (width_of ds ≤ 10)
width_fits ds small = least_passes 10 0 (λ w. fit w ds) small
