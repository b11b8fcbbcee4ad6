-- Lists without repetition are permutations of one another where they have the same elements.
use Rattle.std.proofs.Common.{◌≡◌, ◌≢◌, ◌⊎◌, inl, inr, List, [], ◌∷◌, ◌++◌, Contains, AllPairs, refl, sym, ap, ◌∙◌, subst}
use Rattle.std.specs.Prelude.{IsPermutation}
use Rattle.std.proofs.lemmas.List.Elements.{Contains-append_cases, Contains-append_left, Contains-append_right}
use Rattle.std.proofs.lemmas.List.Sorted.{IsPermutation-refl, IsPermutation-sym, IsPermutation-cons, IsPermutation-trans, IsPermutation-middle}
use Rattle.lwb_base.proofs.Elements.{not_in_none, contains_head, contains_tail, contains_cases, pairs_cons, pairs_tail, pairs_head}

module _ {X : Type 0} where
  -- no two are the same
  abbrev pub Differ : List X → Type 0
  Differ xs = AllPairs (λ x y. x ≢ y) xs

  -- where an element is in a list
  split : (xs : List X) (x : X) → Contains xs x → (us : List X) × (vs : List X) × (xs ≡ us ++ x ∷ vs)
  split [] x there = absurd (not_in_none x there)
  split (y ∷ xs) x there =
      elim (contains_cases y xs x there) [
        | inl is ↦ ([], xs, ap (λ (z : X). z ∷ xs) is)
        | inr rest ↦ (let w = split xs x rest in (y ∷ w.0, w.1, ap (λ (l : List X). y ∷ l) w.2))
      ]

  module _ (us vs : List X) (x : X) where
    with_it : (y : X) → Contains (us ++ vs) y → Contains (us ++ x ∷ vs) y
    with_it y there =
        elim (Contains-append_cases us vs y there) [
          | inl early ↦ Contains-append_left us (x ∷ vs) y early
          | inr late ↦ Contains-append_right us (x ∷ vs) y (contains_tail x vs y late)
        ]

    without_it : (y : X) → Contains (us ++ x ∷ vs) y → (x ≡ y) ⊎ Contains (us ++ vs) y
    without_it y there =
        elim (Contains-append_cases us (x ∷ vs) y there) [
          | inl early ↦ inr (Contains-append_left us vs y early)
          | inr late ↦ elim (contains_cases x vs y late) [ inl is ↦ inl is | inr later ↦ inr (Contains-append_right us vs y later) ]
        ]

    in_it : Contains (us ++ x ∷ vs) x
    in_it = Contains-append_right us (x ∷ vs) x (contains_head x vs)

  abbrev Apart : X → X → Type 0
  Apart x y = x ≢ y

  others : (us vs : List X) (x : X) → Differ (us ++ x ∷ vs) → Differ (us ++ vs) × (Contains (us ++ vs) x → ⊥)
  others [] vs x all = (pairs_tail Apart x vs all, λ there. pairs_head Apart x vs all x there refl)
  others (u ∷ us) vs x all =
      let rest = others us vs x (pairs_tail Apart u (us ++ x ∷ vs) all) in
      let head = pairs_head Apart u (us ++ x ∷ vs) all in (
        pairs_cons Apart u (us ++ vs) (λ y there. head y (with_it us vs x y there)) rest.0,
        λ there. elim (contains_cases u (us ++ vs) x there) [
          | inl is ↦ head x (in_it us vs x) is
          | inr later ↦ rest.1 later
        ],
      )

  pub same_elements : (xs ys : List X) → Differ xs → Differ ys → ((z : X) → Contains xs z → Contains ys z) → ((z : X) → Contains ys z → Contains xs z)
      → IsPermutation xs ys
  same_elements [] [] differ also to from = IsPermutation-refl []
  same_elements [] (y ∷ ys) differ also to from = absurd (not_in_none y (from y (contains_head y ys)))
  same_elements (x ∷ xs) ys differ also to from =
      let w = split ys x (to x (contains_head x xs)) in
      let rest = others w.0 w.1 x (subst Differ w.2 also) in
      let below = same_elements xs (w.0 ++ w.1) (pairs_tail Apart x xs differ) rest.0
      (λ z there. elim (without_it w.0 w.1 x z (subst (λ (l : List X). Contains l z) w.2 (to z (contains_tail x xs z there)))) [
        | inl is ↦ absurd (pairs_head Apart x xs differ z there is)
        | inr later ↦ later
      ])
      (λ z there. elim (contains_cases x xs z (from z (subst (λ (l : List X). Contains l z) (sym w.2) (with_it w.0 w.1 x z there)))) [
        | inl is ↦ absurd (rest.1 (subst (Contains (w.0 ++ w.1)) (sym is) there))
        | inr later ↦ later
      ]) in
      subst (λ (l : List X). IsPermutation (x ∷ xs) l) (sym w.2)
      (IsPermutation-trans (x ∷ xs) (x ∷ (w.0 ++ w.1)) (w.0 ++ x ∷ w.1) (IsPermutation-cons x xs (w.0 ++ w.1) below)
      (IsPermutation-sym (w.0 ++ x ∷ w.1) (x ∷ (w.0 ++ w.1)) (IsPermutation-middle w.0 x w.1)))

-- two elements of a list in which each is so related to all after it
pub which_first : {X : Type 0} (R : X → X → Type 0) (xs : List X) → AllPairs R xs → (x y : X) → Contains xs x → Contains xs y → (x ≡ y) ⊎ (R x y ⊎ R y x)
which_first R [] all x y there also = absurd (not_in_none x there)
which_first {X} R (z ∷ zs) all x y there also =
    elim (contains_cases z zs x there) [
      | inl here ↦ elim (contains_cases z zs y also) [
        | inl too ↦ inl (sym here ∙ too)
        | inr later ↦ inr (inl (subst (λ (w : X). R w y) here (pairs_head R z zs all y later)))
      ]
      | inr late ↦ elim (contains_cases z zs y also) [
        | inl too ↦ inr (inr (subst (λ (w : X). R w x) too (pairs_head R z zs all x late)))
        | inr later ↦ which_first R zs (pairs_tail R z zs all) x y late later
      ]
    ]
