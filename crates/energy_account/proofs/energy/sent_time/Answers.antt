use Rattle.std.proofs.Common.{arith}
use Rattle.radio_model.specs.declared.sending.Sending.{Sending}
use Rattle.energy_account.proofs.Apart.{over_at}
use Rattle.energy_account.proofs.energy.sent_time.Goals as goal

pub overflow_sub-total : goal.overflow_sub-total
overflow_sub-total c = (over_at (λ (e : Sending). e.start) (λ (e : Sending). e.end) c.args.sent.now c.loop-x.x-index c.x-item.result c.requires
    (omega arith) c.x-item.is).1

pub overflow_add-total : goal.overflow_add-total
overflow_add-total c =
    let over = over_at (λ (e : Sending). e.start) (λ (e : Sending). e.end) c.args.sent.now c.loop-x.x-index c.x-item.result c.requires
    (omega arith) c.x-item.is in
    omega (arith, over, c.loop-x.invariant)
