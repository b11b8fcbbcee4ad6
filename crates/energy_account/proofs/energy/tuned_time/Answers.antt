use Rattle.std.proofs.Common.{arith}
use Rattle.air_log.specs.declared.entry.TunedEntry.{TunedEntry}
use Rattle.energy_account.proofs.Apart.{over_at}
use Rattle.energy_account.proofs.energy.tuned_time.Goals as goal

pub overflow_sub-total : goal.overflow_sub-total
overflow_sub-total c = (over_at (λ (e : TunedEntry). e.start) (λ (e : TunedEntry). e.end) c.args.tuned.now c.loop-t.t-index c.t-item.result c.requires
    (omega arith) c.t-item.is).1

pub overflow_add-total : goal.overflow_add-total
overflow_add-total c =
    let over = over_at (λ (e : TunedEntry). e.start) (λ (e : TunedEntry). e.end) c.args.tuned.now c.loop-t.t-index c.t-item.result c.requires
    (omega arith) c.t-item.is in
    omega (arith, over, c.loop-t.invariant)
