-- A width is the least that numbers fit where they fit it and do not fit one bit less.
use Rattle.std.proofs.Common.{◌≡◌, ℕ, zero, suc, ◌+◌, ◌-◌, ◌<◌, ◌≤◌, ◌==◌, List, Bool, true, false, not, inl, inr, sym, ◌∙◌, refl, subst, arith}
use Rattle.std.proofs.lemmas.Bool.{cond-true, cond-false, cond_both, cases_lt, both_ways, eq-eqb, eqb-true}
use Rattle.schedule_codec.specs.Packing.{fit}
use Rattle.schedule_codec.specs.OwnerLists.{least_passing, width_of}
use Rattle.schedule_codec.proofs.CodeBytes.{fit_wider}

least_is : (n k w : ℕ) (passes : ℕ → Bool) → k ≤ w → w ≤ k + n → passes w ≡ true → ((v : ℕ) → v < w → passes v ≡ false) → least_passing n k passes ≡ w
unfolding least_passing
least_is zero k w passes low high pass fails = let same : k ≡ w = omega arith in same
least_is (suc n) k w passes low high pass fails =
    elim (cases_lt k w) [
      | inl before ↦ cond-false (passes k) k (least_passing n (k + 1) passes) (fails k before)
          ∙ least_is n (k + 1) w passes (omega arith) (omega arith) pass fails
      | inr at ↦
          let same : k ≡ w = omega arith in
          cond-true (passes k) k (least_passing n (k + 1) passes) (subst (λ (x : ℕ). passes x ≡ true) (sym same) pass) ∙ same
    ]

least_under : (n k v : ℕ) (passes : ℕ → Bool) → k ≤ v → passes v ≡ true → least_passing n k passes ≤ v
unfolding least_passing
least_under zero k v passes low pass = low
least_under (suc n) k v passes low pass =
    cond_both (passes k) k (least_passing n (k + 1) passes) (λ (x : ℕ). x ≤ v) (λ here. low)
    (λ fails. elim (cases_lt k v) [
      | inl before ↦ least_under n (k + 1) v passes (omega arith) pass
      | inr at ↦
          let same : k ≡ v = omega arith in
          absurd (both_ways (passes k) fails (subst (λ (x : ℕ). passes x ≡ true) (sym same) pass))
    ])

pub none_needed : (w : ℕ) (ds : List ℕ) → w ≡ 0 → fit w ds ≡ true → true ≡ (width_of ds == w)
none_needed w ds none fits =
    let under = least_under 10 0 w (λ v. fit v ds) (omega arith) fits in
    sym (eq-eqb (width_of ds) w (omega arith))

pub needs_all : (w : ℕ) (ds : List ℕ) → 0 < w → w ≤ 10 → fit w ds ≡ true → not (fit (w - 1) ds) ≡ (width_of ds == w)
needs_all w ds some narrow fits = by_value (fit (w - 1) ds) refl
  where
    by_value : (b : Bool) → fit (w - 1) ds ≡ b → not b ≡ (width_of ds == w)
    by_value false never =
        let fails : (v : ℕ) → v < w → fit v ds ≡ false = λ v below. fails_under v (fit v ds) below refl in
        sym (eq-eqb (width_of ds) w (least_is 10 0 w (λ v. fit v ds) (omega arith) (omega arith) fits fails))
      where
        fails_under : (v : ℕ) (b : Bool) → v < w → fit v ds ≡ b → fit v ds ≡ false
        fails_under v false below is = is
        fails_under v true below is = absurd (both_ways (fit (w - 1) ds) never (fit_wider v (w - 1) ds (omega arith) is))
    by_value true less =
        let under = least_under 10 0 (w - 1) (λ v. fit v ds) (omega arith) less in
        differ (width_of ds == w) refl
      where
        differ : (b : Bool) → (width_of ds == w) ≡ b → false ≡ (width_of ds == w)
        differ false is = sym is
        differ true is =
            let same = eqb-true (width_of ds) w is in
            let under = least_under 10 0 (w - 1) (λ v. fit v ds) (omega arith) less in
            absurd (omega (arith, same, under))
