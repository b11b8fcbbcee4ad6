use Rattle.std.proofs.Common.{◌≡◌, ◌+◌, ℕ, get_or, ap, sym, ◌∙◌, subst}
use Rattle.std.proofs.lemmas.List.{get_or_default}
use Rattle.link_trace.specs.Masks.{IsMaskUpto}
use Rattle.link_trace.proofs.MaskBits.{one_with, one_without}
use Rattle.radio_model.specs.Receptions.{arrives}
use Rattle.radio_model.proofs.receivers.reached_by_other.Goals as goal
use Rattle.radio_model.proofs.receivers.reached_by_other.Goals.{then-arrives, else-arrives}

pub loop-i-preserved : goal.loop-i-preserved
loop-i-preserved c =
    let i = c.loop-i.i in
    let nodes = c.args.nodes.now in
    let test = λ (v : ℕ). arrives c.args.profile.now c.args.trace.now.lines v c.args.y.now in
    let inside = c.loop-i-test.true in
    let read : c.index-nodes-i.result ≡ get_or nodes i 0 = c.index-nodes-i.is ∙ get_or_default nodes i c.index-nodes-i.result 0 inside in
    let answer : test (get_or nodes i 0) ≡ c.arrives.result = ap test (sym read) ∙ sym c.arrives.ensures in
    elim c.if-arrives.branch [
      | then-arrives w ↦
          subst (λ (m : ℕ). IsMaskUpto test nodes (i + 1) m) (sym w.places-is)
          (one_with nodes test i c.loop-i.places c.loop-i.invariant w.with-places.result w.with-places.ensures.set w.with-places.ensures.others
          (answer ∙ w.if-arrives.true))
      | else-arrives w ↦
          subst (λ (m : ℕ). IsMaskUpto test nodes (i + 1) m) (sym w.places-is)
          (one_without nodes test i c.loop-i.places c.loop-i.invariant (answer ∙ w.if-arrives.false))
    ]
