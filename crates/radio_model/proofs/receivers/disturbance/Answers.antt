use Rattle.std.proofs.Common.{◌&&◌, not, ◌+◌, List, get_or, sym, subst, take}
use Rattle.std.proofs.lemmas.List.{take_all}
use Rattle.std.specs.List.{list_any}
use Rattle.link_trace.proofs.MaskBits.{left_out}
use Rattle.radio_model.specs.OnAir.{Sending}
use Rattle.radio_model.specs.Receptions.{transmits, spoils, differs}
use Rattle.radio_model.specs.Reaches.{IsReach, AreDisturbed}
use Rattle.radio_model.specs.declared.receivers.Reach.{Reach}
use Rattle.radio_model.proofs.ReceiverMasks.{one_more_near, left_by_none}
use Rattle.radio_model.proofs.Those.{is_none}
use Rattle.radio_model.proofs.receivers.disturbance.Goals as goal

pub loop-k-preserved : goal.loop-k-preserved
loop-k-preserved c =
    λ lines nodes are.
    let p = c.args.profile.now in
    let near = c.args.near.now in
    let x = c.args.x.now in
    let k = c.loop-k.k in
    let y = c.index-near-k.result in
    let so_far = c.loop-k.invariant lines nodes are in
    let r = c.index-reaches-k.result in
    let is : IsReach p lines nodes y r =
    subst (λ (d : Reach). IsReach p lines nodes y d) (sym c.index-reaches-k.is)
    (subst (λ (z : Sending). IsReach p lines nodes z (get_or c.args.reaches.now k r)) (sym c.index-near-k.is) (are.each k y r c.loop-k-test.true)) in
    record {
      busy = one_more_near nodes (λ v. transmits v x) near k y c.loop-k.busy c.disturbed_by-by.result.busy c.or-busy.result c.loop-k-test.true
          c.index-near-k.is c.or-busy.ensures so_far.busy (c.disturbed_by-by.ensures.busy nodes is.from);
      late = one_more_near nodes (λ v. spoils p lines v x) near k y c.loop-k.late c.disturbed_by-by.result.late c.or-late.result c.loop-k-test.true
          c.index-near-k.is c.or-late.ensures so_far.late (c.disturbed_by-by.ensures.late lines nodes is.to);
      mixed = one_more_near nodes (λ v. differs p lines v x) near k y c.loop-k.mixed c.disturbed_by-by.result.mixed c.or-mixed.result c.loop-k-test.true
          c.index-near-k.is c.or-mixed.ensures so_far.mixed (c.disturbed_by-by.ensures.mixed lines nodes is.to);
    }

pub returns-then-is_empty-clause-none : goal.returns-then-is_empty-clause-none
returns-then-is_empty-clause-none c =
    λ lines nodes m few are to.
    let p = c.args.profile.now in
    let near = c.args.near.now in
    let x = c.args.x.now in
    let k = c.loop-k.k in
    let y = c.index-near-k.result in
    let so_far = c.loop-k.invariant lines nodes are in
    let r = c.index-reaches-k.result in
    let is : IsReach p lines nodes y r =
    subst (λ (d : Reach). IsReach p lines nodes y d) (sym c.index-reaches-k.is)
    (subst (λ (z : Sending). IsReach p lines nodes z (get_or c.args.reaches.now k r)) (sym c.index-near-k.is) (are.each k y r c.loop-k-test.true)) in
    let busy = one_more_near nodes (λ v. transmits v x) near k y c.loop-k.busy c.disturbed_by-by.result.busy c.or-busy.result c.loop-k-test.true
    c.index-near-k.is c.or-busy.ensures so_far.busy (c.disturbed_by-by.ensures.busy nodes is.from) in
    let late = one_more_near nodes (λ v. spoils p lines v x) near k y c.loop-k.late c.disturbed_by-by.result.late c.or-late.result c.loop-k-test.true
    c.index-near-k.is c.or-late.ensures so_far.late (c.disturbed_by-by.ensures.late lines nodes is.to) in
    let quiet = left_out nodes m (λ v. list_any (transmits v x) (take (k + 1) near)) c.args.to c.or-busy.result c.except-quiet.result
    c.except-quiet.ensures to busy in
    let left = left_out nodes (λ v. m v && not (list_any (transmits v x) (take (k + 1) near)))
    (λ v. list_any (spoils p lines v x) (take (k + 1) near)) c.except-quiet.result c.or-late.result c.except-left.result c.except-left.ensures quiet late in
    left_by_none nodes m (λ v. transmits v x) (λ v. spoils p lines v x) near (k + 1) c.except-left.result
    (is_none c.except-left.result c.is_empty.result c.is_empty.ensures c.if-is_empty.true) left

pub returns-clause-some : goal.returns-clause-some
returns-clause-some c =
    λ lines nodes are.
    subst (λ (ys : List Sending). AreDisturbed c.args.profile.now lines nodes c.args.x.now ys
    (record { busy = c.loop-k.busy; late = c.loop-k.late; mixed = c.loop-k.mixed }))
    (take_all c.loop-k.k c.args.near.now c.loop-k-test.false) (c.loop-k.invariant lines nodes are)
