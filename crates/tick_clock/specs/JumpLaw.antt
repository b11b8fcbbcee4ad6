-- Jump clocks keep the drift law.
use Rattle.std.proofs.Common.{ℕ, ◌≤◌, Bool, true, false, arith}
use Rattle.tick_clock.specs.Clocks.{IsClock}
use Rattle.tick_clock.specs.Jumps.{jump_reading}

pub jump_law : (offset : ℕ) (fast : Bool) → offset ≤ 256000 → IsClock (jump_reading offset fast)
jump_law offset true early = record { begins = omega arith; fast = λ t d within. omega arith; slow = λ t d within. omega arith }
jump_law offset false early = record { begins = omega arith; fast = λ t d within. omega arith; slow = λ t d within. omega arith }
