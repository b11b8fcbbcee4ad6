-- Two lists in which a number ascends are one if they have the same elements.
use Rattle.std.proofs.Common.{◌≡◌, ℕ, ◌<◌, List, [], ◌∷◌, inl, inr, Contains, refl, sym, ◌∙◌, ap, arith}
use Rattle.std.specs.List.{AllByRecursion}
use Rattle.lwb_base.proofs.Elements.{contains_cases, contains_head, contains_tail, not_in_none}
use Rattle.scenario_text.specs.FloodDrafts.{Climbs}

module _ {X : Type 0} (key : X → ℕ) where
  abbrev pub Below : X → X → Type 0
  Below x y = key x < key y

  each_later : (x : X) (xs : List X) → AllByRecursion (Below x) xs → (y : X) → Contains xs y → key x < key y
  each_later x [] all y there = absurd (not_in_none y there)
  each_later x (z ∷ xs) all y there =
      elim (contains_cases z xs y there) [
        | inl same ↦ (let first = all.0 in let is = ap key same in omega (arith, first, is))
        | inr later ↦ each_later x xs all.1 y later
      ]

  module _ (x y : X) (xs ys : List X) (up : Climbs Below (x ∷ xs)) (rise : Climbs Below (y ∷ ys))
      (there : (z : X) → Contains (x ∷ xs) z → Contains (y ∷ ys) z) (here : (z : X) → Contains (y ∷ ys) z → Contains (x ∷ xs) z) where
    same_first : x ≡ y
    same_first =
        elim (contains_cases y ys x (there x (contains_head x xs))) [
          | inl same ↦ sym same
          | inr later ↦ elim (contains_cases x xs y (here y (contains_head y ys))) [
            | inl same ↦ same
            | inr also ↦
                (let above = each_later y ys rise.0 x later in
                let below = each_later x xs up.0 y also in
                absurd (omega (arith, above, below)))
          ]
        ]

    rest_there : (z : X) → Contains xs z → Contains ys z
    rest_there z within =
        elim (contains_cases y ys z (there z (contains_tail x xs z within))) [
          | inr later ↦ later
          | inl same ↦
              (let above = each_later x xs up.0 z within in
              let is = ap key (same_first ∙ same) in
              absurd (omega (arith, above, is)))
        ]

    rest_here : (z : X) → Contains ys z → Contains xs z
    rest_here z within =
        elim (contains_cases x xs z (here z (contains_tail y ys z within))) [
          | inr later ↦ later
          | inl same ↦
              (let above = each_later y ys rise.0 z within in
              let is = ap key (sym same_first ∙ same) in
              absurd (omega (arith, above, is)))
        ]

  pub same_ascending : (xs ys : List X) → Climbs Below xs → Climbs Below ys
      → ((z : X) → Contains xs z → Contains ys z) → ((z : X) → Contains ys z → Contains xs z) → xs ≡ ys
  same_ascending [] [] up rise there here = refl
  same_ascending [] (y ∷ ys) up rise there here = absurd (not_in_none y (here y (contains_head y ys)))
  same_ascending (x ∷ xs) [] up rise there here = absurd (not_in_none x (there x (contains_head x xs)))
  same_ascending (x ∷ xs) (y ∷ ys) up rise there here =
      ap (λ (z : X). z ∷ xs) (same_first x y xs ys up rise there here)
      ∙ ap (λ (l : List X). y ∷ l)
      (same_ascending xs ys up.1 rise.1 (rest_there x y xs ys up rise there here) (rest_here x y xs ys up rise there here))
