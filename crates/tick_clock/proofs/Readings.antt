-- How far a clock's readings are from true time.
use Rattle.std.proofs.Common.{◌≡◌, ℕ, zero, suc, ◌+◌, ◌/◌, ◌-◌, ◌^◌, ◌<◌, ◌≤◌, sym, ap, subst, arith, add-zero}
use Rattle.tick_clock.specs.Clocks.{Near, IsClock}

-- the clock that reads the true tick
pub true_clock : IsClock (λ t. t)
true_clock = record { begins = omega arith; fast = λ t d within. omega arith; slow = λ t d within. omega arith }

pub rounding : (L : ℕ → ℕ) (t d : ℕ) → IsClock L → t + d ≤ 2 ^ 48 → Near (L (t + d)) (L t + d) (d / 50000 + 1)
rounding L t d clock within = omega (arith, clock.fast t d within, clock.slow t d within)

-- the same, where the later tick is given
pub rounded : (L : ℕ → ℕ) (t d u : ℕ) → IsClock L → u ≡ t + d → u ≤ 2 ^ 48 → Near (L u) (L t + d) (d / 50000 + 1)
rounded L t d u clock is within = subst (λ (v : ℕ). Near (L v) (L t + d) (d / 50000 + 1)) (sym is) (rounding L t d clock (omega arith))

pub one_more : (L : ℕ → ℕ) (t : ℕ) → IsClock L → t + 1 ≤ 2 ^ 48 → (L t ≤ L (t + 1)) × (L (t + 1) ≤ L t + 2)
one_more L t clock within = let r = rounding L t 1 clock within in omega arith

pub never_back_by : (L : ℕ → ℕ) (s k : ℕ) → IsClock L → s + k ≤ 2 ^ 48 → L s ≤ L (s + k)
never_back_by L s zero clock within = rw add-zero (omega arith)
never_back_by L s (suc k) clock within =
    let before = never_back_by L s k clock (omega arith) in
    let step = one_more L (s + k) clock (omega arith) in
    let same : L ((s + k) + 1) ≡ L (s + suc k) = ap L (omega arith) in
    omega arith

pub never_back : (L : ℕ → ℕ) (s t : ℕ) → IsClock L → s ≤ t → t ≤ 2 ^ 48 → L s ≤ L t
never_back L s t clock order within =
    let same : L (s + (t - s)) ≡ L t = ap L (omega arith) in
    let by = never_back_by L s (t - s) clock (omega arith) in
    omega arith

pub over_short : (L : ℕ → ℕ) (t d : ℕ) → IsClock L → t + d ≤ 2 ^ 48 → d < 50000 → Near (L (t + d)) (L t + d) 1
over_short L t d clock within short = omega (arith, rounding L t d clock within)

pub read_in_range : (L : ℕ → ℕ) (t : ℕ) → IsClock L → t ≤ 2 ^ 45 → L t < 2 ^ 46
read_in_range L t clock within = omega (arith, rounded L 0 t t clock (omega arith) (omega arith))
