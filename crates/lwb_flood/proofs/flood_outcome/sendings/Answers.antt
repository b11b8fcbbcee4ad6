use Rattle.std.proofs.Common.{◌≡◌, ap, arith}
use Rattle.lwb_base.proofs.Truths.{one_if}
use Rattle.lwb_flood.proofs.LogReading.{counted_more}
use Rattle.lwb_flood.proofs.flood_outcome.sendings.Goals as goal
use Rattle.lwb_flood.proofs.flood_outcome.sendings.Goals.{then-is_sent, else-is_sent}

pub loop-i-preserved : goal.loop-i-preserved
loop-i-preserved c =
    let air = c.args.air.now in
    let i = c.loop-i.i in
    let n = c.loop-i.sent in
    let few = c.loop-i.invariant.few in
    let more = counted_more air i n c.is_sent.result (omega arith) c.loop-i.invariant.counted c.is_sent.ensures in
    elim c.if-is_sent.branch [
      | then-is_sent w ↦
          (let one : one_if c.is_sent.result ≡ 1 = ap one_if w.if-is_sent.true in
          let is = w.sent-is in
          record { counted = omega (arith, more, one, is); few = omega (arith, few, is) })
      | else-is_sent w ↦
          (let none : one_if c.is_sent.result ≡ 0 = ap one_if w.if-is_sent.false in
          let is = w.sent-is in
          record { counted = omega (arith, more, none, is); few = omega (arith, few, is) })
    ]
