-- Clocks as functions from true ticks to their readings.
use Rattle.std.specs.Prelude.{ℕ, zero, suc, ◌+◌, ◌*◌, ◌/◌, ◌^◌, ◌≤◌, Bool, if◌then◌else◌, nat_le}
use Rattle.lwb_base.specs.declared.limits.TheConstants.{DRIFT_BOUND}

-- x and y differ by at most b
pub record Near (x y b : ℕ) : Type 0 where
  pub below : x ≤ y + b
  pub above : y ≤ x + b

-- the drift law: over any d ticks a clock gains or loses at most DRIFT_BOUND millionths of them, and one tick for the rounding
pub record IsClock (reading : ℕ → ℕ) : Type 0 where
  pub begins : reading 0 ≤ 256000
  pub fast : (t d : ℕ) → t + d ≤ 2 ^ 48 → 1000000 * reading (t + d) ≤ 1000000 * (reading t + d) + DRIFT_BOUND * d + 1000000
  pub slow : (t d : ℕ) → t + d ≤ 2 ^ 48 → 1000000 * (reading t + d) ≤ 1000000 * reading (t + d) + DRIFT_BOUND * d + 1000000

-- the first number that passes the test, or n where none below n does
unfoldable pub least : ℕ → (ℕ → Bool) → ℕ
least zero passes = zero
least (suc n) passes = if passes zero then zero else suc (least n (λ t. passes (suc t)))

-- the first tick at which the clock reads x or more: by the drift law it comes within the bound of the search
unfoldable pub due : (ℕ → ℕ) → ℕ → ℕ
due reading x = least (x + x / 40000 + 3) (λ t. nat_le x (reading t))
