-- A permutation that rises is the list that rises strictly.
use Rattle.std.proofs.Common.{◌≡◌, ℕ, ◌<◌, List, AllPairs, arith}
use Rattle.std.specs.Prelude.{IsPermutation}
use Rattle.std.specs.List.Sorted.{IsNonDecreasingBy}
use Rattle.std.proofs.lemmas.List.Sorted.{Contains-permutation, IsPermutation-sym}
use Rattle.air_log.proofs.StrictOrders.{same_order, in_other_order}

module _ {X : Type 0} (key : X → ℕ) where
  abbrev pub Below : X → X → Type 0
  Below x y = key x < key y

  one_way : (x y : X) → Below x y → Below y x → ⊥
  one_way x y up down = omega (arith, up, down)

  pub one_in_order : (xs ys : List X) → AllPairs Below xs → IsPermutation xs ys → IsNonDecreasingBy key ys → xs ≡ ys
  one_in_order xs ys up moved rises =
      let apart = in_other_order key xs ys moved (λ i j d less within same. (let before = up i j d less within in omega (arith, before, same))) in
      same_order Below one_way xs ys up
      (λ i j d less within.
      (let no = apart i j d less within in let le = rises i j d (omega (arith, less)) within in omega (arith, no, le)))
      (λ z there. Contains-permutation xs ys z moved there)
      (λ z there. Contains-permutation ys xs z (IsPermutation-sym xs ys moved) there)
