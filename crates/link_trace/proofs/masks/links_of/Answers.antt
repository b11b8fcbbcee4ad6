use Rattle.std.proofs.Common.{◌≡◌, ◌+◌, ℕ, get_or, ap, sym, ◌∙◌, subst}
use Rattle.std.proofs.lemmas.List.{get_or_default}
use Rattle.link_trace.specs.Masks.{IsMaskUpto}
use Rattle.link_trace.specs.Sides.{is_linked}
use Rattle.link_trace.proofs.MaskBits.{one_with, one_without}
use Rattle.link_trace.proofs.masks.links_of.Goals as goal
use Rattle.link_trace.proofs.masks.links_of.Goals.{then-has_link_on, else-has_link_on}

pub loop-i-preserved : goal.loop-i-preserved
loop-i-preserved c =
    let i = c.loop-i.i in
    let nodes = c.args.nodes.now in
    let test = λ (v : ℕ). is_linked c.args.side.now c.args.links.now v in
    let inside = c.loop-i-test.true in
    let read : c.index-nodes-i.result ≡ get_or nodes i 0 = c.index-nodes-i.is ∙ get_or_default nodes i c.index-nodes-i.result 0 inside in
    let answer : test (get_or nodes i 0) ≡ c.has_link_on.result = ap test (sym read) ∙ sym c.has_link_on.ensures in
    elim c.if-has_link_on.branch [
      | then-has_link_on w ↦
          subst (λ (m : ℕ). IsMaskUpto test nodes (i + 1) m) (sym w.mask-is)
          (one_with nodes test i c.loop-i.mask c.loop-i.invariant w.with-mask.result w.with-mask.ensures.set w.with-mask.ensures.others
          (answer ∙ w.if-has_link_on.true))
      | else-has_link_on w ↦
          subst (λ (m : ℕ). IsMaskUpto test nodes (i + 1) m) (sym w.mask-is)
          (one_without nodes test i c.loop-i.mask c.loop-i.invariant (answer ∙ w.if-has_link_on.false))
    ]
