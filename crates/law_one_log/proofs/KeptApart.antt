-- What holds of any two elements, put together from parts.
use Rattle.std.proofs.Common.{◌≡◌, ℕ, inl, inr, List, [], ◌∷◌, Bool, true, ◌==◌, filter, Contains, AllPairs, refl, sym, subst, arith}
use Rattle.std.proofs.lemmas.Bool.{cond_both, cond-true, eq-eqb}
use Rattle.lwb_base.proofs.Elements.{not_in_none, contains_head, contains_tail, contains_cases, pairs_cons, pairs_tail, pairs_head}

-- elements of nodes, of which any two of one node are so
module _ {X : Type 0} (node : X → ℕ) (R : X → X → Type 0) where
  abbrev of_node : ℕ → X → Bool
  of_node v x = node x == v

  abbrev pub AtNode : X → X → Type 0
  AtNode x y = node x ≡ node y → R x y

  rest_of : (v : ℕ) (x : X) (xs : List X) → AllPairs R (filter (of_node v) (x ∷ xs)) → AllPairs R (filter (of_node v) xs)
  rest_of v x xs =
      cond_both (of_node v x) (x ∷ filter (of_node v) xs) (filter (of_node v) xs)
      (λ (ys : List X). AllPairs R ys → AllPairs R (filter (of_node v) xs))
      (λ own. pairs_tail R x (filter (of_node v) xs))
      (λ other all. all)

  in_part : (v : ℕ) (xs : List X) (y : X) → Contains xs y → node y ≡ v → Contains (filter (of_node v) xs) y
  in_part v [] y there is = absurd (not_in_none y there)
  in_part v (x ∷ xs) y there is =
      elim (contains_cases x xs y there) [
        | inl same ↦ subst (λ (l : List X). Contains l y) (sym (cond-true (of_node v x) (x ∷ filter (of_node v) xs) (filter (of_node v) xs)
            (subst (λ (z : X). of_node v z ≡ true) (sym same) (eq-eqb (node y) v is))))
            (subst (Contains (x ∷ filter (of_node v) xs)) same (contains_head x (filter (of_node v) xs)))
        | inr rest ↦ cond_both (of_node v x) (x ∷ filter (of_node v) xs) (filter (of_node v) xs) (λ (l : List X). Contains l y)
            (λ at. contains_tail x (filter (of_node v) xs) y (in_part v xs y rest is)) (λ not. in_part v xs y rest is)
      ]

  pub of_all_nodes : (xs : List X) → ((v : ℕ) → AllPairs R (filter (λ x. node x == v) xs)) → AllPairs AtNode xs
  of_all_nodes [] each = λ i j d less within. absurd (omega (arith, within))
  of_all_nodes (x ∷ xs) each =
      let v = node x in
      let kept : filter (of_node v) (x ∷ xs) ≡ x ∷ filter (of_node v) xs = cond-true (of_node v x) _ _ (eq-eqb v v refl) in
      let own = subst (AllPairs R) kept (each v) in
      pairs_cons AtNode x xs
      (λ y there same. pairs_head R x (filter (of_node v) xs) own y (in_part v xs y there (sym same)))
      (of_all_nodes xs (λ u. rest_of u x xs (each u)))
