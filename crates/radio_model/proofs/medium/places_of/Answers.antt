use Rattle.std.proofs.Common.{◌≡◌, ◌<◌, ◌∙◌, ℕ, set, get_or, inl, inr, ap, sym, arith}
use Rattle.std.proofs.lemmas.Bool.{cases_lt}
use Rattle.std.proofs.lemmas.List.{length-set, get_or-set_same, get_or-set_other, get_or_default}
use Rattle.radio_model.proofs.medium.places_of.Goals as goal

pub loop-i-preserved : goal.loop-i-preserved
loop-i-preserved c =
    let nodes = c.args.nodes.now in
    let xs = c.loop-i.places.items in
    let i = c.loop-i.i in
    let j = c.from.result in
    let v = c.index-nodes-i.result in
    let at : j ≡ v = c.from.ensures ∙ c.number.ensures.value in
    let node : (d : ℕ) → get_or nodes i d ≡ v = λ d. get_or_default nodes i d v c.loop-i-test.true ∙ sym c.index-nodes-i.is in
    let all = c.loop-i.invariant.all in
    let most = c.number.ensures.range.1 in
    record {
      all = length-set xs j i ∙ all;
      each = λ k below. elim (cases_lt k i) [
        | inl before ↦
            let less : get_or nodes k 0 < get_or nodes i 0 = c.requires.ascending k i 0 before c.loop-i-test.true in
            get_or-set_other xs j (get_or nodes k 0) i 0 (λ same. omega (arith, less, same, at, node 0)) ∙ c.loop-i.invariant.each k before
        | inr last ↦
            let here : k ≡ i = omega arith in
            ap (λ (n : ℕ). get_or (set xs j i) (get_or nodes n 0) 0) here ∙ ap (λ (n : ℕ). get_or (set xs j i) n 0) (node 0 ∙ sym at)
            ∙ get_or-set_same xs j i 0 (omega (arith, all, at, most)) ∙ sym here
      ];
    }
