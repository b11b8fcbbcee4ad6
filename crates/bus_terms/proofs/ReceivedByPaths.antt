-- In a data slot members deliver what relay paths bring to them.
use Rattle.std.proofs.Common.{◌≡◌, ◌≢◌, ℕ, zero, suc, ◌<◌, List, [], ◌∷◌, Bool, true, false, if◌then◌else◌, ◌==◌, inl, inr, Option}
use Rattle.std.proofs.Common.{None, filter, filter_map, refl, sym, ◌∙◌, ap, subst, arith, length, All, AllPairs}
use Rattle.std.specs.Prelude.{◌⊎◌}
use Rattle.std.proofs.lemmas.Bool.{cases_Bool, or_cases, or_right, or_left, eqb-true, false≢true, cond_both, cond-true, cond-false}
use Rattle.std.proofs.lemmas.List.Kept.{AllPairs-filter}
use Rattle.std.proofs.lemmas.List.Elements.{filter_passes}
use Rattle.bus_terms.specs.Flooding.{Setting, Moment, moment, hears, has, pick, offer, named, only_one, Hears}
use Rattle.bus_terms.specs.RelayPaths.{HasPath, IsPath}

-- of ids that rise, a test that one alone can pass leaves none or that one
pub one_at_most : (keeps : ℕ → Bool) (o : ℕ) (xs : List ℕ) → AllPairs (λ a b. a < b) xs → ((v : ℕ) → keeps v ≡ true → v ≡ o)
    → (filter keeps xs ≡ []) ⊎ ((filter keeps xs ≡ o ∷ []) × (keeps o ≡ true))
one_at_most keeps o xs rise alone = by_list (filter keeps xs) refl
  where
    by_list : (ys : List ℕ) → filter keeps xs ≡ ys → (filter keeps xs ≡ []) ⊎ ((filter keeps xs ≡ o ∷ []) × (keeps o ≡ true))
    by_list [] is = inl is
    by_list (y ∷ []) is =
        let all = subst (λ (l : List ℕ). All (λ v. keeps v ≡ true) l) is (filter_passes keeps xs) in
        let passes : keeps y ≡ true = all 0 0 (omega arith) in
        let same : y ≡ o = alone y passes in
        inr (is ∙ ap (λ (z : ℕ). z ∷ []) same, subst (λ (z : ℕ). keeps z ≡ true) same passes)
    by_list (y ∷ z ∷ zs) is =
        let all = subst (λ (l : List ℕ). All (λ v. keeps v ≡ true) l) is (filter_passes keeps xs) in
        let pairs = subst (λ (l : List ℕ). AllPairs (λ a b. a < b) l) is (AllPairs-filter (λ a b. a < b) keeps xs rise) in
        let below : y < z = pairs 0 1 0 (omega arith) (omega arith) in
        let first : y ≡ o = alone y (all 0 0 (omega arith)) in
        let second : z ≡ o = alone z (all 1 0 (omega arith)) in
        absurd (omega arith)

pub in_filtered : (p : ℕ → Bool) (xs : List ℕ) (v : ℕ) → has xs v ≡ true → p v ≡ true → has (filter p xs) v ≡ true
in_filtered p [] v there is = absurd (false≢true there)
in_filtered p (x ∷ xs) v there is =
    elim (or_cases (x == v) _ there) [
      | inl same ↦
          (let at : x ≡ v = eqb-true x v same in
          let kept : p x ≡ true = ap p at ∙ is in
          rw kept (or_left (x == v) _ same))
      | inr later ↦
          (let rest = in_filtered p xs v later is in
          cond_both (p x) (x ∷ filter p xs) (filter p xs) (λ (l : List ℕ). has l v ≡ true) (λ _. or_right (x == v) _ rest) (λ _. rest))
    ]

pub of_filtered : (p : ℕ → Bool) (xs : List ℕ) (v : ℕ) → has (filter p xs) v ≡ true → p v ≡ true
of_filtered p [] v there = absurd (false≢true there)
of_filtered p (x ∷ xs) v there = by_test (p x) refl there (of_filtered p xs v)
  where
    by_test : (b : Bool) → p x ≡ b → has (if b then x ∷ filter p xs else filter p xs) v ≡ true → (has (filter p xs) v ≡ true → p v ≡ true) → p v ≡ true
    by_test true is here more = elim (or_cases (x == v) _ here) [ inl same ↦ ap p (sym (eqb-true x v same)) ∙ is | inr later ↦ more later ]
    by_test false is here more = more here

pub in_whole : (p : ℕ → Bool) (xs : List ℕ) (v : ℕ) → has (filter p xs) v ≡ true → has xs v ≡ true
in_whole p [] v there = there
in_whole p (x ∷ xs) v there =
    let more = in_whole p xs v in
    elim (cases_Bool (p x)) [
      | inl keeps ↦
          (let here : has (x ∷ filter p xs) v ≡ true = ap (λ (l : List ℕ). has l v) (sym (cond-true (p x) (x ∷ filter p xs) (filter p xs) keeps)) ∙ there in
          elim (or_cases (x == v) _ here) [ inl same ↦ or_left (x == v) _ same | inr later ↦ or_right (x == v) _ (more later) ])
      | inr drops ↦
          or_right (x == v) _ (more (ap (λ (l : List ℕ). has l v) (sym (cond-false (p x) (x ∷ filter p xs) (filter p xs) drops)) ∙ there))
    ]

-- where nobody initiates, nobody sends and nobody receives
module _ (s : Setting) (none : s.initiators ≡ []) where
  nothing_offered : (m : Moment) (k v : ℕ) → ((u : ℕ) → m.sends u ≡ None) → (u : ℕ) → offer s m k v u ≡ None
  nothing_offered m k v quiet u = cond_both (s.passes k u v) (m.sends u) None (λ (x : Option ℕ). x ≡ None) (λ _. quiet u) (λ _. refl)

  no_candidates : (m : Moment) (k v : ℕ) → ((u : ℕ) → m.sends u ≡ None) → (us : List ℕ) → filter_map (offer s m k v) us ≡ []
  no_candidates m k v quiet [] = refl
  no_candidates m k v quiet (u ∷ us) = rw (nothing_offered m k v quiet u) (no_candidates m k v quiet us)

  nothing_heard : (m : Moment) (k v : ℕ) → ((u : ℕ) → m.sends u ≡ None) → hears s m k v ≡ None
  nothing_heard m k v quiet =
      let picked : pick s m k v ≡ None = ap (λ (l : List ℕ). only_one l (named s m k v)) (no_candidates m k v quiet s.everyone) in
      rw picked (cond_both _ None None (λ (x : Option ℕ). x ≡ None) (λ _. refl) (λ _. refl))

  nobody_sends : (k v : ℕ) → (moment s k).sends v ≡ None
  unfolding moment
  nobody_sends zero v = rw none refl
  nobody_sends (suc k) v =
      let quiet = nothing_heard (moment s k) k v (λ u. nobody_sends k u) in
      rw quiet (cond_both _ None None (λ (x : Option ℕ). x ≡ None) (λ _. refl) (λ _. refl))

  pub nobody_hears : (v o k : ℕ) → Hears s v k o → ⊥
  nobody_hears v o k heard =
      let quiet = nothing_heard (moment s k) k v (λ u. nobody_sends k u) in
      cc

  pub no_path : (start v m : ℕ) → v ≢ start → HasPath s start m v → ⊥
  no_path start v m other path = by_nodes path.nodes path.path
    where
      by_nodes : (us : List ℕ) → IsPath s start (v ∷ us) → ⊥
      by_nodes [] is = other is
      by_nodes (u ∷ us) (before, sends, passes, quiet_then, few) = (let quiet = nobody_sends (length us) u in cc)
