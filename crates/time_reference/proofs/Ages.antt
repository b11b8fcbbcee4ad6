-- When a time comes that a clock was set to, some ticks ago.
use Rattle.std.proofs.Common.{◌≡◌, ℕ, ◌+◌, ◌*◌, ◌/◌, ◌-◌, ◌^◌, ◌<◌, ◌≤◌, subst, arith}
use Rattle.tick_clock.proofs.DueTicks.{reads_at_due, before_due, due_at_most, due_after}
use Rattle.tick_clock.proofs.Readings.{rounding}
use Rattle.tick_clock.specs.Clocks.{Near, IsClock, due}

pub age : (L : ℕ → ℕ) (A t0 m x e : ℕ) → IsClock L → Near (L t0 + m) x e → A / 50000 + e + 2 ≤ m → m + A / 50000 + e + 1 ≤ A
    → t0 + (m + A / 50000 + e + 1) ≤ 2 ^ 48
    → Near (due L x) (t0 + m) (A / 50000 + e + 1)
age L A t0 m x e clock near old young within =
    let late = rounding L t0 (m + A / 50000 + e + 1) clock (omega arith) in
    let upper : due L x ≤ t0 + (m + A / 50000 + e + 1) = due_at_most L x _ (omega arith) in
    let d : ℕ = m - (A / 50000 + e + 2) in
    let is : d + (A / 50000 + e + 2) ≡ m = omega arith in
    let soon = rounding L t0 d clock (omega arith) in
    let lower : t0 + d < due L x = due_after L x (t0 + d) clock (omega arith) (omega arith) in
    omega arith

pub exact_leg : (L : ℕ → ℕ) (t0 d m x e : ℕ) → IsClock L → due L x ≡ t0 + d → 0 < d → t0 + d ≤ 2 ^ 48 → Near (L t0 + m) x e → Near d m (d / 50000 + e + 1)
exact_leg L t0 d m x e clock is some within near =
    let at = rounding L t0 d clock within in
    let read : x ≤ L (t0 + d) = subst (λ (t : ℕ). x ≤ L t) is (reads_at_due L x clock (omega arith)) in
    let d1 : ℕ = d - 1 in
    let prior : d1 + 1 ≡ d = omega arith in
    let early = before_due L x (t0 + d1) (omega arith) in
    let before = rounding L t0 d1 clock (omega arith) in
    omega arith

pub two_legs : (L1 L2 : ℕ → ℕ) (A t0 m1 m2 x1 x2 e : ℕ) → IsClock L1 → IsClock L2
    → Near (L1 t0 + m1) x1 1 → Near (L2 (due L1 x1) + m2) x2 e → A / 50000 + 3 ≤ m1 → A / 50000 + e + 2 ≤ m2
    → m1 + m2 + 2 * (A / 50000) + e + 3 ≤ A → t0 + A ≤ 2 ^ 48
    → Near (due L2 x2) (t0 + (m1 + m2)) (A / 50000 + e + 3)
two_legs L1 L2 A t0 m1 m2 x1 x2 e clock1 clock2 near1 near2 old1 old2 young within =
    let first = age L1 A t0 m1 x1 1 clock1 near1 (omega arith) (omega arith) (omega arith) in
    let t1 : ℕ = due L1 x1 in
    let second = age L2 A t1 m2 x2 e clock2 near2 old2 (omega arith) (omega arith) in
    let t2 : ℕ = due L2 x2 in
    let d1 : ℕ = t1 - t0 in
    let d2 : ℕ = t2 - t1 in
    let is1 : t1 ≡ t0 + d1 = omega arith in
    let is2 : t2 ≡ t1 + d2 = omega arith in
    let exact1 = exact_leg L1 t0 d1 m1 x1 1 clock1 is1 (omega arith) (omega arith) near1 in
    let exact2 = exact_leg L2 t1 d2 m2 x2 e clock2 is2 (omega arith) (omega arith) near2 in
    omega arith
