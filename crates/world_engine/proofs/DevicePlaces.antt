-- The places of devices: what is at them after a change at one, and that their ids differ.
use Rattle.std.proofs.Common.{◌≡◌, ◌≢◌, ℕ, zero, suc, ◌<◌, List, [], ◌∷◌, set, length, Some, refl, arith, inl, inr}
use Rattle.std.specs.Prelude.{AllPairs}
use Rattle.std.specs.List.{slice_get}
use Rattle.std.proofs.lemmas.Bool.{cases_order}
use Rattle.lwb_base.proofs.Elements.{pairs_head, pairs_tail, contains_at}

pub at_set : {X : Type 0} (xs : List X) (i : ℕ) (y : X) → i < length xs → slice_get (set xs i y) i ≡ Some y
at_set [] i y within = absurd (omega arith)
at_set (x ∷ xs) zero y within = refl
at_set (x ∷ xs) (suc i) y within = at_set xs i y (omega arith)

-- what ascends has each element once
later_is_more : (xs : List ℕ) → AllPairs (λ a b. a < b) xs → (i j a b : ℕ) → i < j → slice_get xs i ≡ Some a → slice_get xs j ≡ Some b → a < b
later_is_more [] up i j a b less at_i at_j = cc
later_is_more (x ∷ xs) up i zero a b less at_i at_j = absurd (omega arith)
later_is_more (x ∷ xs) up zero (suc j) a b less at_i at_j =
    let is : x ≡ a = cc in
    let more : x < b = pairs_head (λ a b. a < b) x xs up b (contains_at xs j b at_j) in
    omega (arith, is, more)
later_is_more (x ∷ xs) up (suc i) (suc j) a b less at_i at_j = later_is_more xs (pairs_tail (λ a b. a < b) x xs up) i j a b (omega arith) at_i at_j

pub apart_at : (xs : List ℕ) → AllPairs (λ a b. a < b) xs → (i j a b : ℕ) → i ≢ j → slice_get xs i ≡ Some a → slice_get xs j ≡ Some b → a ≢ b
apart_at xs up i j a b apart at_i at_j same =
    elim (cases_order i j) [
      | inl is ↦ apart is
      | inr rest ↦ elim rest [
        | inl less ↦ let l = later_is_more xs up i j a b less at_i at_j in omega (arith, l, same)
        | inr more ↦ let l = later_is_more xs up j i b a more at_j at_i in omega (arith, l, same)
      ]
    ]
