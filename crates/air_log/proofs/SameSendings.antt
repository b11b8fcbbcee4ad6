-- Two transmissions are the same or not.
use Rattle.std.proofs.Common.{◌≡◌, ◌≢◌, ◌⊎◌, ℕ, inl, inr, List, bytes_eq, sym, ◌∙◌, ap}
use Rattle.std.proofs.lemmas.Bool.{cases_eq, cases_Bool, true≢false}
use Rattle.std.proofs.lemmas.Slice.Eq.{bytes_eq-Decides}
use Rattle.radio_model.specs.declared.sending.Sending.{Sending}

pub same_sending : (x y : Sending) → x.rank ≡ y.rank → x.node ≡ y.node → x.start ≡ y.start → x.end ≡ y.end → x.packet ≡ y.packet → x ≡ y
same_sending x y rank node start end packet =
    ap (λ (n : ℕ). record x { rank = n }) rank
    ∙ ap (λ (n : ℕ). record x { rank = y.rank; node = n }) node
    ∙ ap (λ (n : ℕ). record x { rank = y.rank; node = y.node; start = n }) start
    ∙ ap (λ (n : ℕ). record x { rank = y.rank; node = y.node; start = y.start; end = n }) end
    ∙ ap (λ (p : List ℕ). record x { rank = y.rank; node = y.node; start = y.start; end = y.end; packet = p }) packet

pub which_sending : (x y : Sending) → (x ≡ y) ⊎ (x ≢ y)
which_sending x y =
    elim (cases_eq x.rank y.rank) [
      | inr other ↦ inr (λ is. other (ap (λ (z : Sending). z.rank) is))
      | inl rank ↦ elim (cases_eq x.node y.node) [
        | inr other ↦ inr (λ is. other (ap (λ (z : Sending). z.node) is))
        | inl node ↦ elim (cases_eq x.start y.start) [
          | inr other ↦ inr (λ is. other (ap (λ (z : Sending). z.start) is))
          | inl start ↦ elim (cases_eq x.end y.end) [
            | inr other ↦ inr (λ is. other (ap (λ (z : Sending). z.end) is))
            | inl end ↦ elim (cases_Bool (bytes_eq x.packet y.packet)) [
              | inl same ↦ inl (same_sending x y rank node start end ((bytes_eq-Decides x.packet y.packet).0 same))
              | inr other ↦ inr (λ is. true≢false (sym ((bytes_eq-Decides x.packet y.packet).1 (ap (λ (z : Sending). z.packet) is)) ∙ other))
            ]
          ]
        ]
      ]
    ]
