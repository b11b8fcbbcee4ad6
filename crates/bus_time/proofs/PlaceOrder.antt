-- The order by three numbers: where no two elements have the same three, the elements alone tell the list.
use Rattle.std.proofs.Common.{◌≡◌, ℕ, ◌<◌, inl, inr, List, [], ◌∷◌, Bool, true, filter, Contains, AllPairs}
use Rattle.std.proofs.Common.{Ordering, Equal, refl, sym, ◌∙◌, ap, arith, true≢false}
use Rattle.std.specs.Cmp.{IsStrictWeakOrder}
use Rattle.std.specs.List.Sorted.{ties}
use Rattle.std.specs.Ordering.{nat_cmp, ordering_then, is_lt}
use Rattle.std.proofs.lemmas.List.Kept.{AllPairs-filter}
use Rattle.std.proofs.lemmas.List.Sorted.{ranks_by}
use Rattle.radio_model.proofs.Members.{not_in_none, in_head, in_either}
use Rattle.lwb_base.specs.Sorting.{in_order}
use Rattle.lwb_base.proofs.Truths.{both_not}
use Rattle.lwb_base.proofs.Elements.{in_filtered, filtered, weaker_pairs}
use Rattle.lwb_base.proofs.StableSorts.{same_in_order}
use Rattle.lwb_base.proofs.Orders.{by_three, by_three_total, compares_equal, compares_less, one_number}

abbrev pub Place : Type 0
Place = ℕ × ℕ × ℕ

-- the same three numbers
pub record SamePlace (a b : Place) : Type 0 where
  pub first : a.0 ≡ b.0
  pub second : a.1 ≡ b.1
  pub third : a.2 ≡ b.2

module _ (a b : Place) where
  abbrev then_so : Ordering → Ordering → Ordering → Bool
  then_so l m n = is_lt (ordering_then (ordering_then l m) n)

  abbrev Before : Type 0
  Before = is_lt (by_three a b) ≡ true

  by_first : a.0 < b.0 → Before
  by_first less = ap (λ (l : Ordering). then_so l (nat_cmp a.1 b.1) (nat_cmp a.2 b.2)) (compares_less a.0 b.0 less)

  by_second : a.0 ≡ b.0 → a.1 < b.1 → Before
  by_second first less =
      ap (λ (l : Ordering). then_so l (nat_cmp a.1 b.1) (nat_cmp a.2 b.2)) (compares_equal a.0 b.0 first)
      ∙ ap (λ (m : Ordering). then_so Equal m (nat_cmp a.2 b.2)) (compares_less a.1 b.1 less)

  by_third : a.0 ≡ b.0 → a.1 ≡ b.1 → a.2 < b.2 → Before
  by_third first second less =
      ap (λ (l : Ordering). then_so l (nat_cmp a.1 b.1) (nat_cmp a.2 b.2)) (compares_equal a.0 b.0 first)
      ∙ ap (λ (m : Ordering). then_so Equal m (nat_cmp a.2 b.2)) (compares_equal a.1 b.1 second)
      ∙ ap (λ (n : Ordering). then_so Equal Equal n) (compares_less a.2 b.2 less)

neither_before : (a b : Place) → (Before a b → ⊥) → (Before b a → ⊥) → SamePlace a b
neither_before a b up down =
    let first = one_number a.0 b.0 (λ less. up (by_first a b less)) (λ less. down (by_first b a less)) in
    let second = one_number a.1 b.1 (λ less. up (by_second a b first less)) (λ less. down (by_second b a (sym first) less)) in
    let third = one_number a.2 b.2 (λ less. up (by_third a b first second less)) (λ less. down (by_third b a (sym first) (sym second) less)) in
    record { first = first; second = second; third = third }

module _ {X : Type 0} (place : X → Place) where
  abbrev pub comes_first : X → X → Bool
  comes_first x y = is_lt (by_three (place x) (place y))

  is_order : IsStrictWeakOrder comes_first
  is_order = ranks_by by_three_total place

  abbrev pub PlacesApart : X → X → Type 0
  PlacesApart x y = SamePlace (place x) (place y) → ⊥

  abbrev Never : X → X → Type 0
  Never x y = ⊥

  tied_place : (x y : X) → ties comes_first x y ≡ true → SamePlace (place x) (place y)
  tied_place x y tied =
      let so = both_not (comes_first x y) (comes_first y x) tied in
      neither_before (place x) (place y) (λ is. true≢false (sym is ∙ so.0)) (λ is. true≢false (sym is ∙ so.1))

  -- lists of at most one element
  alone : (xs ys : List X) → AllPairs Never xs → AllPairs Never ys → ((x : X) → Contains xs x → Contains ys x)
      → ((x : X) → Contains ys x → Contains xs x) → xs ≡ ys
  alone [] [] one also to from = refl
  alone [] (y ∷ ys) one also to from = absurd (not_in_none y (from y (in_head ys y)))
  alone (x ∷ xs) [] one also to from = absurd (not_in_none x (to x (in_head xs x)))
  alone (x ∷ []) (y ∷ []) one also to from =
      elim (in_either [] y x (to x (in_head [] x))) [ inl is ↦ ap (λ (e : X). e ∷ []) (sym is) | inr none ↦ absurd (not_in_none x none) ]
  alone (x ∷ z ∷ xs) (y ∷ ys) one also to from = absurd (one 0 1 x (omega arith) (omega arith))
  alone (x ∷ []) (y ∷ z ∷ ys) one also to from = absurd (also 0 1 y (omega arith) (omega arith))

  one_tied : (z : X) (xs : List X) → AllPairs PlacesApart xs → AllPairs Never (filter (ties comes_first z) xs)
  one_tied z xs apart =
      weaker_pairs PlacesApart Never (filter (ties comes_first z) xs) (AllPairs-filter PlacesApart (ties comes_first z) xs apart)
      (λ x y there also differ.
      let first = tied_place z x (filtered (ties comes_first z) xs x there).1 in
      let second = tied_place z y (filtered (ties comes_first z) xs y also).1 in
      differ (record { first = sym first.first ∙ second.first; second = sym first.second ∙ second.second; third = sym first.third ∙ second.third }))

  tied_too : (z : X) (xs ys : List X) → ((x : X) → Contains xs x → Contains ys x) → (x : X) → Contains (filter (ties comes_first z) xs) x
      → Contains (filter (ties comes_first z) ys) x
  tied_too z xs ys to x there =
      let both = filtered (ties comes_first z) xs x there in
      in_filtered (ties comes_first z) ys x (to x both.0) both.1

  pub same_list : (xs ys : List X) → AllPairs PlacesApart xs → AllPairs PlacesApart ys → ((x : X) → Contains xs x → Contains ys x)
      → ((x : X) → Contains ys x → Contains xs x) → in_order comes_first xs ≡ in_order comes_first ys
  same_list xs ys one also to from =
      same_in_order comes_first is_order xs ys (λ z.
      alone (filter (ties comes_first z) xs) (filter (ties comes_first z) ys) (one_tied z xs one) (one_tied z ys also)
      (tied_too z xs ys to) (tied_too z ys xs from))
