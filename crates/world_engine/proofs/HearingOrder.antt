-- The order of receptions, by the ends and the senders of what is received, and the order of ids.
use Rattle.std.proofs.Common.{◌≡◌, ℕ, ◌<◌, ◌⊎◌, inl, inr, List, true, false, nat_lt, ◌==◌, slice_get, Some, arith, AllPairs, lt-ltb}
use Rattle.std.proofs.Common.{ltb-true, eqb-true, eq-eqb}
use Rattle.std.proofs.lemmas.Bool.{cases_order, or_left, or_right, or_cases, and_parts, and_from, false_from_ne_true}
use Rattle.std.proofs.lemmas.Option.{slice_get_within, get_or_from_slice_get}
use Rattle.radio_model.specs.declared.sending.Sending.{Sending}
use Rattle.radio_model.specs.OnAir.{Hearing}
use Rattle.air_log.specs.Lawful.{reception_comes_before}

-- by end, and then by sender
abbrev pub IsEarlier : Sending → Sending → Type 0
IsEarlier x y = (x.end < y.end) ⊎ ((x.end ≡ y.end) × (x.node < y.node))

pub earlier : (g h : Hearing) → reception_comes_before g h ≡ true → IsEarlier g.sending h.sending
earlier g h is =
    elim (or_cases (nat_lt g.sending.end h.sending.end) _ is) [
      | inl less ↦ inl (ltb-true g.sending.end h.sending.end less)
      | inr same ↦
          let both = and_parts (g.sending.end == h.sending.end) (nat_lt g.sending.node h.sending.node) same in
          inr (eqb-true g.sending.end h.sending.end both.0, ltb-true g.sending.node h.sending.node both.1)
    ]

pub comes_if : (g h : Hearing) → IsEarlier g.sending h.sending → reception_comes_before g h ≡ true
comes_if g h is =
    elim is [
      | inl less ↦ or_left (nat_lt g.sending.end h.sending.end) _ (lt-ltb g.sending.end h.sending.end less)
      | inr both ↦ or_right (nat_lt g.sending.end h.sending.end) _
          (and_from (g.sending.end == h.sending.end) (nat_lt g.sending.node h.sending.node) (eq-eqb g.sending.end h.sending.end both.0)
          (lt-ltb g.sending.node h.sending.node both.1))
    ]

pub not_both : (x y : Sending) → IsEarlier x y → IsEarlier y x → ⊥
not_both x y a b = elim a [
  | inl less ↦ elim b [ inl more ↦ omega (arith, less, more) | inr same ↦ omega (arith, less, same.0) ]
  | inr at ↦ elim b [ inl more ↦ omega (arith, at.0, more) | inr same ↦ omega (arith, at.1, same.1) ]
]

pub not_before : (g h : Hearing) → (IsEarlier g.sending h.sending → ⊥) → reception_comes_before g h ≡ false
not_before g h never = false_from_ne_true (reception_comes_before g h) (λ is. never (earlier g h is))

-- of ascending ids
module _ (ids : List ℕ) (ascending : AllPairs (λ a b. a < b) ids) where
  pub ids_ascend : (p r u v : ℕ) → slice_get ids p ≡ Some u → slice_get ids r ≡ Some v → p < r → u < v
  ids_ascend p r u v at_p at_r less =
      omega (arith, ascending p r 0 less (slice_get_within ids r v at_r), get_or_from_slice_get ids p u 0 at_p, get_or_from_slice_get ids r v 0 at_r)

  pub one_place : (p r v : ℕ) → slice_get ids p ≡ Some v → slice_get ids r ≡ Some v → p ≡ r
  one_place p r v at_p at_r =
      elim (cases_order p r) [
        | inl same ↦ same
        | inr other ↦ elim other [
          | inl less ↦ absurd (omega (arith, ids_ascend p r v v at_p at_r less))
          | inr more ↦ absurd (omega (arith, ids_ascend r p v v at_r at_p more))
        ]
      ]
