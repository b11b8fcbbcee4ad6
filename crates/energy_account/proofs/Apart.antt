-- Times that lie one after another: what they last together is over by the start of the next.
use Rattle.std.proofs.Common.{◌≡◌, ℕ, zero, suc, ◌+◌, ◌-◌, ◌<◌, ◌≤◌, List, [], ◌∷◌, ◌++◌, reverse, length, get_or, take, sum_by, All, AllPairs, refl, sym}
use Rattle.std.proofs.Common.{subst, arith}
use Rattle.std.proofs.lemmas.List.Elements.{All-head, All-tail, All-push}
use Rattle.std.proofs.lemmas.List.Sums.{sum_by-cons}
use Rattle.std.specs.Prelude.{slice_index_or}
use Rattle.energy_account.specs.Apart.{AreApart}
use Rattle.lwb_base.proofs.Elements.{reversed}

pub all_reverse : {X : Type 0} (P : X → Type 0) (xs : List X) → All P xs → All P (reverse xs)
all_reverse P [] all = all
all_reverse {X} P (x ∷ xs) all =
    subst (λ (l : List X). All P l) (sym (reversed x xs)) (All-push P (reverse xs) x (all_reverse P xs (All-tail P x xs all)) (All-head P x xs all))

-- pairs of an element and a later one
module _ {X : Type 0} (R : X → X → Type 0) where
  pub pairs_head : (x : X) (xs : List X) → AllPairs R (x ∷ xs) → All (R x) xs
  pairs_head x xs all i d less = all zero (suc i) d (omega arith) (omega (arith, less))

  pub pairs_tail : (x : X) (xs : List X) → AllPairs R (x ∷ xs) → AllPairs R xs
  pairs_tail x xs all i j d less within = all (suc i) (suc j) d (omega (arith, less)) (omega (arith, within))

module _ {X : Type 0} (start end : X → ℕ) where
  abbrev time : X → ℕ
  time x = end x - start x

  pub in_turn : (since : ℕ) (xs : List X) → All (λ x. since ≤ start x) xs → All (λ x. start x ≤ end x) xs → AllPairs (λ x y. end x ≤ start y) xs
      → AreApart start end since xs
  in_turn since [] from lasts apart = tt
  in_turn since (x ∷ xs) from lasts apart = (
    All-head (λ y. since ≤ start y) x xs from,
    All-head (λ y. start y ≤ end y) x xs lasts,
    in_turn (end x) xs (pairs_head (λ x y. end x ≤ start y) x xs apart) (All-tail (λ y. start y ≤ end y) x xs lasts)
        (pairs_tail (λ x y. end x ≤ start y) x xs apart),
  )

  -- one more, after all
  one_more : (since : ℕ) (xs : List X) (y : X) → since ≤ start y → start y ≤ end y → All (λ x. end x ≤ start y) xs → AreApart start end since xs
      → AreApart start end since (xs ++ y ∷ [])
  one_more since [] y after lasts over apart = (after, lasts, tt)
  one_more since (x ∷ xs) y after lasts over apart = (
    apart.0,
    apart.1,
    one_more (end x) xs y (All-head (λ x. end x ≤ start y) x xs over) lasts (All-tail (λ x. end x ≤ start y) x xs over) apart.2,
  )

  -- the last first
  pub turned : (xs : List X) → All (λ x. start x ≤ end x) xs → AllPairs (λ y x. end x ≤ start y) xs → AreApart start end 0 (reverse xs)
  turned [] lasts apart = tt
  turned (y ∷ xs) lasts apart =
      subst (λ (l : List X). AreApart start end 0 l) (sym (reversed y xs))
      (one_more 0 (reverse xs) y (omega arith) (All-head (λ x. start x ≤ end x) y xs lasts)
      (all_reverse (λ x. end x ≤ start y) xs (pairs_head (λ y x. end x ≤ start y) y xs apart))
      (turned xs (All-tail (λ x. start x ≤ end x) y xs lasts) (pairs_tail (λ y x. end x ≤ start y) y xs apart)))

  over_from : (since : ℕ) (xs : List X) (i : ℕ) (d : X) → AreApart start end since xs → i < length xs
      → (since + sum_by time (take i xs) ≤ start (slice_index_or xs i d)) × (start (slice_index_or xs i d) ≤ end (slice_index_or xs i d))
  over_from since [] i d apart less = absurd (omega (arith, less))
  over_from since (y ∷ ys) zero d apart less =
      let from : since ≤ start y = apart.0 in
      let none : sum_by time (take 0 (y ∷ ys)) ≡ 0 = refl in
      (omega (arith, from, none), apart.1)
  over_from since (y ∷ ys) (suc i) d apart less =
      let later = over_from (end y) ys i d apart.2 (omega (arith, less)) in
      let sum : sum_by time (y ∷ take i ys) ≡ time y + sum_by time (take i ys) = sum_by-cons time y (take i ys) in
      (omega (arith, apart.0, apart.1, later.0, sum), later.1)

  -- what came before is over when one begins
  over_before : (xs : List X) (i : ℕ) (d : X) → AreApart start end 0 xs → i < length xs
      → (sum_by time (take i xs) ≤ start (slice_index_or xs i d)) × (start (slice_index_or xs i d) ≤ end (slice_index_or xs i d))
  over_before xs i d apart less = let over = over_from 0 xs i d apart less in (omega (arith, over.0), over.1)

  pub over_at : (xs : List X) (i : ℕ) (x : X) → AreApart start end 0 xs → i < length xs → x ≡ get_or xs i x → (sum_by time (take i xs) ≤ start x)
      × (start x ≤ end x)
  over_at xs i x apart less is = subst (λ (z : X). (sum_by time (take i xs) ≤ start z) × (start z ≤ end z)) (sym is) (over_before xs i x apart less)
