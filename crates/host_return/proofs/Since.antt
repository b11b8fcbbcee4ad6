-- The transmissions that start at a tick or after it.
use Rattle.std.proofs.Common.{◌≡◌, ℕ, ◌+◌, ◌-◌, ◌≤◌, List, length, drop, inl, inr, true, false, nat_lt, sym, ◌∙◌, ap, arith, Contains, get_or}
use Rattle.std.proofs.Common.{length-drop}
use Rattle.std.proofs.lemmas.Bool.{cases_lt, ltb-true, ltb-false}
use Rattle.std.proofs.lemmas.List.{get_or-drop}
use Rattle.std.specs.List.Sorted.{IsPartitionPoint}
use Rattle.radio_model.specs.declared.sending.Sending.{Sending}

module _ (sent : List Sending) (t first : ℕ) (within : first ≤ length sent)
    (begin : IsPartitionPoint (λ (y : Sending). nat_lt y.start t ≡ true) (λ y. nat_lt y.start t ≡ false) sent first) where
  pub all_since : (y : Sending) → Contains sent y → t ≤ y.start → Contains (drop first sent) y
  all_since y (k, below, at) late = elim (cases_lt k first) [
    | inl early ↦
        let so = ltb-true (get_or sent k y).start t (begin.0 k y (omega arith) early) in
        let start = ap (λ (z : Sending). z.start) at in
        absurd (omega (arith, so, start, late))
    | inr from ↦ (
      k - first,
      omega (arith, below, length-drop first sent),
      get_or-drop first sent (k - first) y ∙ ap (λ (n : ℕ). get_or sent n y) (omega arith) ∙ at,
    )
  ]

  pub none_before : (y : Sending) → Contains (drop first sent) y → t ≤ y.start
  none_before y (k, below, at) =
      let so = ltb-false (get_or sent (first + k) y).start t (begin.1 (first + k) y (omega arith) (omega (arith, below, length-drop first sent))) in
      let start = ap (λ (z : Sending). z.start) (sym (get_or-drop first sent k y) ∙ at) in
      omega (arith, so, start)
