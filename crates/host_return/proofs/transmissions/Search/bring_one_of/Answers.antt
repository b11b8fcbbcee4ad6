use Rattle.std.proofs.Common.{List, Contains, subst, sym}
use Rattle.std.proofs.lemmas.Bool.{both_ways, false≢true}
use Rattle.std.proofs.lemmas.List.{take_all}
use Rattle.std.proofs.lemmas.List.Elements.{Contains-get_or}
use Rattle.radio_model.proofs.Members.{not_in_none}
use Rattle.radio_model.specs.declared.sending.Sending.{Sending}
use Rattle.host_return.specs.Probes.{Brings}
use Rattle.host_return.proofs.Heard.{none_more, none_after}
use Rattle.host_return.proofs.transmissions.Search.bring_one_of.Goals as goal

pub loop-x-init : goal.loop-x-init
loop-x-init c = λ air sent y there brings. not_in_none y there

pub loop-x-preserved : goal.loop-x-preserved
loop-x-preserved c =
    λ air sent.
    let s = c.args.s.now in
    let r = c.args.r.now in
    let x = c.x-item.result in
    none_more (Brings s air r.frame r.node r.rank) c.args.some.now c.loop-x.x-index x c.loop-x-test.true c.x-item.is (c.loop-x.invariant air sent)
    (λ brings. both_ways c.brings.result c.if-brings.false ((c.brings.ensures air sent).1 brings))

pub returns-then-not-is_in_frame : goal.returns-then-not-is_in_frame
returns-then-not-is_in_frame c =
    λ air sent.
    let s = c.args.s.now in
    let r = c.args.r.now in
    let x = c.x-item.result in
    let i = c.loop-x.x-index in
    let there : Contains c.args.some.now x = subst (Contains c.args.some.now) (sym c.x-item.is) (Contains-get_or c.args.some.now i x c.loop-x-test.true) in (
      λ so. absurd (false≢true so),
      λ w. absurd (none_after s air r.frame r.node r.rank c.args.some.now i x c.loop-x-test.true c.x-item.is c.requires.in_order
          (c.requires.since x there) (λ within. both_ways c.is_in_frame.result c.if-not-is_in_frame.true (c.is_in_frame.ensures.1 within))
          (c.loop-x.invariant air sent) w.0 w.1 w.2),
    )

pub returns : goal.returns
returns c =
    λ air sent. (
      λ so. absurd (false≢true so),
      λ w. absurd (c.loop-x.invariant air sent w.0
          (subst (λ (ys : List Sending). Contains ys w.0) (sym (take_all c.loop-x.x-index c.args.some.now c.loop-x-test.false)) w.1) w.2),
    )
