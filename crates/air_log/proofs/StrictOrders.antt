-- Lists in one strict order are one where they have the same elements, and numbers that differ do so in any order.
use Rattle.std.proofs.Common.{◌≡◌, ◌≢◌, ℕ, inl, inr, List, [], ◌∷◌, Bool, ◌==◌, Contains, AllPairs, get_or, refl, sym, ap, ◌∙◌, subst}
use Rattle.std.specs.Prelude.{IsPermutation}
use Rattle.std.proofs.lemmas.Bool.{eqb-false, ne_eqb}
use Rattle.std.proofs.lemmas.Map.Keys.{IsDistinct-IsPermutation, IsDistinct-from_apart, apart_from_distinct}
use Rattle.lwb_base.proofs.Elements.{not_in_none, contains_head, contains_tail, contains_cases, pairs_tail, pairs_head}
use Rattle.lwb_base.proofs.Orders.{equal_turned}

-- two lists in one strict order with the same elements
module _ {X : Type 0} (R : X → X → Type 0) (one_way : (x y : X) → R x y → R y x → ⊥) where
  pub same_order : (xs ys : List X) → AllPairs R xs → AllPairs R ys → ((z : X) → Contains xs z → Contains ys z)
      → ((z : X) → Contains ys z → Contains xs z) → xs ≡ ys
  same_order [] [] up down to from = refl
  same_order [] (y ∷ ys) up down to from = absurd (not_in_none y (from y (contains_head y ys)))
  same_order (x ∷ xs) [] up down to from = absurd (not_in_none x (to x (contains_head x xs)))
  same_order (x ∷ xs) (y ∷ ys) up down to from =
      ap (λ (z : X). z ∷ xs) first
      ∙ ap (λ (l : List X). y ∷ l) (same_order xs ys (pairs_tail R x xs up) (pairs_tail R y ys down) to_rest from_rest)
    where
      after_x : (z : X) → Contains xs z → R x z
      after_x = pairs_head R x xs up

      after_y : (z : X) → Contains ys z → R y z
      after_y = pairs_head R y ys down

      first : x ≡ y
      first =
          elim (contains_cases y ys x (to x (contains_head x xs))) [
            | inl is ↦ sym is
            | inr late ↦ elim (contains_cases x xs y (from y (contains_head y ys))) [
              | inl is ↦ is
              | inr later ↦ absurd (one_way y x (after_y x late) (after_x y later))
            ]
          ]

      to_rest : (z : X) → Contains xs z → Contains ys z
      to_rest z there =
          elim (contains_cases y ys z (to z (contains_tail x xs z there))) [
            | inl is ↦ (let so : R z z = subst (λ (w : X). R w z) (first ∙ is) (after_x z there) in absurd (one_way z z so so))
            | inr later ↦ later
          ]

      from_rest : (z : X) → Contains ys z → Contains xs z
      from_rest z there =
          elim (contains_cases x xs z (from z (contains_tail y ys z there))) [
            | inl is ↦ (let so : R z z = subst (λ (w : X). R w z) (sym first ∙ is) (after_y z there) in absurd (one_way z z so so))
            | inr later ↦ later
          ]

-- elements with a number each, of which no two have the same one, in another order
module _ {X : Type 0} (key : X → ℕ) where
  abbrev together : X → X → Bool
  together x y = key x == key y

  abbrev pub Apart : X → X → Type 0
  Apart x y = key x ≢ key y

  pub in_other_order : (xs ys : List X) → IsPermutation xs ys → AllPairs Apart xs → AllPairs Apart ys
  in_other_order xs ys moved all i j d less within =
      let before = IsDistinct-from_apart together xs (λ i j d less within. ne_eqb (key (get_or xs i d)) (key (get_or xs j d)) (all i j d less within)) in
      let after = IsDistinct-IsPermutation together (λ x y. equal_turned (key x) (key y)) xs ys moved before in
      eqb-false (key (get_or ys i d)) (key (get_or ys j d)) (apart_from_distinct together ys i j d after less within)
