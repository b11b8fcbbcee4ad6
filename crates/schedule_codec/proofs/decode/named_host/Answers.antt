use Rattle.std.proofs.Common.{ℕ, ◌==◌, get_or, Some, inl, inr, ap, sym, ◌∙◌, arith}
use Rattle.std.proofs.lemmas.Bool.{both_ways, eq-eqb}
use Rattle.schedule_codec.specs.Spelling.{spells}
use Rattle.schedule_codec.proofs.Heads.{names_host}
use Rattle.schedule_codec.proofs.decode.named_host.Goals as goal
use Rattle.schedule_codec.proofs.decode.named_host.Goals.{then-kind-eq1, else-kind-eq1}

pub returns-in_default-clause-rank : goal.returns-in_default-clause-rank
returns-in_default-clause-rank c =
    λ s is.
    let long = (names_host c.bytes.result.now s (ap (λ l. spells l s) c.bytes.ensures.value ∙ is)).long in
    absurd (omega arith)

pub returns-then-kind-eq4-clause-rank : goal.returns-then-kind-eq4-clause-rank
returns-then-kind-eq4-clause-rank c =
    λ s is.
    let named = names_host c.bytes.result.now s (ap (λ l. spells l s) c.bytes.ensures.value ∙ is) in
    ap (λ (n : ℕ). Some n) named.host

pub returns-else-kind-eq4-clause-rank : goal.returns-else-kind-eq4-clause-rank
returns-else-kind-eq4-clause-rank c =
    λ s is.
    let named = names_host c.bytes.result.now s (ap (λ l. spells l s) c.bytes.ensures.value ∙ is) in
    let kind = get_or c.bytes.result.now 0 0 in
    elim c.if-kind-eq1.branch [
      | then-kind-eq1 w ↦ absurd (both_ways (kind == 1) (sym w.value-is ∙ c.if-kind-eq4.false) (eq-eqb kind 1 w.if-kind-eq1.true))
      | else-kind-eq1 w ↦ elim named.kind [
        | inl one ↦ absurd (w.if-kind-eq1.false one)
        | inr four ↦ absurd (both_ways (kind == 4) (sym w.value-is ∙ c.if-kind-eq4.false) (eq-eqb kind 4 four))
      ]
    ]
