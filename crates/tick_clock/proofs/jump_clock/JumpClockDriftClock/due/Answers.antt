use Rattle.std.proofs.Common.{arith}
use Rattle.tick_clock.proofs.JumpDues.{fast_due, slow_due}
use Rattle.tick_clock.proofs.jump_clock.JumpClockDriftClock.due.Goals as goal

pub returns-then-self : goal.returns-then-self
returns-then-self c =
    fast_due c.args.self.now.offset c.args.local c.fast_due.result c.args.self.now.fast c.args.self.now.early c.requires c.if-self.true
    (omega arith) (λ s less. omega (arith, c.fast_due.ensures.before s less))

pub returns-else-self : goal.returns-else-self
returns-else-self c =
    slow_due c.args.self.now.offset c.args.local c.slow_due.result c.args.self.now.fast c.args.self.now.early c.requires c.if-self.false
    (omega arith) (λ s less. omega (arith, c.slow_due.ensures.before s less))
