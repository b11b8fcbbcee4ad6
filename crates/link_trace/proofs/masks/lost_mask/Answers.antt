use Rattle.std.proofs.Common.{◌≡◌, ℕ, List, Bool, arith, subst}
use Rattle.std.proofs.lemmas.List.{take_all}
use Rattle.link_trace.specs.declared.lines.LoseLine.{LoseLine}
use Rattle.link_trace.specs.Masks.{IsMask}
use Rattle.link_trace.specs.Sides.{is_lost, is_lost_by, sender_of, receiver_of}
use Rattle.link_trace.proofs.MaskBits.{one_more_line, same_tests}
use Rattle.link_trace.proofs.SlotNumbers.{at_loss}
use Rattle.link_trace.proofs.SlotParts.{same_any}
use Rattle.link_trace.proofs.masks.lost_mask.Goals as goal

pub loop-line-preserved : goal.loop-line-preserved
loop-line-preserved c =
    let by : ℕ → LoseLine → Bool = λ v l. is_lost_by c.args.frame c.args.slot c.args.step c.args.side.now v l in
    rw c.or-mask.ensures (one_more_line c.args.nodes.now by c.of_slots-of_slot.result.now c.loop-line.line-index
    c.line-item.result c.loop-line.mask c.lost_by.result c.loop-line-test.true c.loop-line.invariant
    (subst (λ (l : LoseLine). IsMask (λ v. by v l) c.args.nodes.now c.lost_by.result) c.line-item.is c.lost_by.ensures))

pub returns : goal.returns
returns c =
    let f = c.args.frame in
    let j = c.args.slot in
    let k = c.args.step in
    let side = c.args.side.now in
    let part = c.of_slots-of_slot.result.now in
    let number = c.slot_number-number.ensures.value in
    let same : (v : ℕ) → is_lost f j k side part v ≡ is_lost f j k side c.args.losses.now v = λ v.
    same_any (is_lost_by f j k side v) part c.args.losses.now
    (c.of_slots-of_slot.ensures.all (is_lost_by f j k side v)
    (λ l is. let place = at_loss f j k (sender_of side v) (receiver_of side v) l is in (omega (arith, place.0, number), omega (arith, place.1, number)))) in
    same_tests c.args.nodes.now (λ v. is_lost f j k side part v) (λ v. is_lost f j k side c.args.losses.now v) c.loop-line.mask same
    (subst (λ (ls : List LoseLine). IsMask (λ v. is_lost f j k side ls v) c.args.nodes.now c.loop-line.mask)
    (take_all c.loop-line.line-index part c.loop-line-test.false) c.loop-line.invariant)
