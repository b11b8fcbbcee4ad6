-- When jump clocks come to a reading.
use Rattle.std.proofs.Common.{◌≡◌, ℕ, ◌-◌, ◌^◌, ◌<◌, ◌≤◌, Bool, true, false, sym, subst, arith}
use Rattle.tick_clock.specs.Clocks.{due}
use Rattle.tick_clock.specs.Jumps.{jump_reading}
use Rattle.tick_clock.specs.JumpLaw.{jump_law}
use Rattle.tick_clock.proofs.DueTicks.{due_unique}

pub fast_due : (offset x t : ℕ) (fast : Bool) → offset ≤ 256000 → x ≤ 2 ^ 47 → fast ≡ true
    → x - offset ≤ jump_reading 0 true t → ((s : ℕ) → s < t → jump_reading 0 true s < x - offset) → t ≡ due (jump_reading offset fast) x
fast_due offset x t fast early small is at before =
    subst (λ (b : Bool). t ≡ due (jump_reading offset b) x) (sym is)
    (due_unique (jump_reading offset true) x t (jump_law offset true early) small (omega arith) (λ s less. omega (arith, before s less)))

pub slow_due : (offset x t : ℕ) (fast : Bool) → offset ≤ 256000 → x ≤ 2 ^ 47 → fast ≡ false
    → x - offset ≤ jump_reading 0 false t → ((s : ℕ) → s < t → jump_reading 0 false s < x - offset) → t ≡ due (jump_reading offset fast) x
slow_due offset x t fast early small is at before =
    subst (λ (b : Bool). t ≡ due (jump_reading offset b) x) (sym is)
    (due_unique (jump_reading offset false) x t (jump_law offset false early) small (omega arith) (λ s less. omega (arith, before s less)))
