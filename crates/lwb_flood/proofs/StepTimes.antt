-- Times of the steps of one flood.
use Rattle.std.proofs.Common.{◌≡◌, ℕ, ◌+◌, ◌*◌, ◌-◌, ◌<◌, ◌≤◌, subst, arith}
use Rattle.std.proofs.Math.Nat.{mul-le-mul_left, mul-le-mul_right}
use Rattle.tick_clock.specs.Clocks.{Near}
use Rattle.time_reference.specs.Floods.{Overlap}

pub chained : (air turn k s s' s0 : ℕ) → Near s (s0 + k * (air + turn)) k → Near s' (s + air + turn) 1 → Near s' (s0 + (k + 1) * (air + turn)) (k + 1)
chained air turn k s s' s0 near one = omega arith

apart : (air turn k r q x y sx sy : ℕ) → q + 23 < turn → k + 1 + r ≤ 11 → Near sx sy q → Near x (sx + k * (air + turn)) k
    → Near y (sy + (k + 1 + r) * (air + turn)) (k + 1 + r) → x + air < y
apart air turn k r q x y sx sy room few origins at_x at_y =
    let some : 1 ≤ air + turn = omega arith in
    omega (arith, mul-le-mul_left r some)

-- a transmission of an earlier step ends before one of a later step starts
pub in_order : (air turn k k' q x y sx sy : ℕ) → q + 23 < turn → k < k' → k' ≤ 11 → Near sx sy q → Near x (sx + k * (air + turn)) k
    → Near y (sy + k' * (air + turn)) k' → x + air < y
in_order air turn k k' q x y sx sy room less few origins at_x at_y =
    let r : ℕ = k' - (k + 1) in
    let is : k' ≡ k + 1 + r = omega arith in
    apart air turn k r q x y sx sy room (omega arith) origins at_x (subst (λ (i : ℕ). Near y (sy + i * (air + turn)) i) is at_y)

-- transmissions of one step overlap
pub meet : (air turn k q x y sx sy : ℕ) → q + 22 < air → k ≤ 11 → Near sx sy q → Near x (sx + k * (air + turn)) k → Near y (sy + k * (air + turn)) k
    → Overlap x (x + air) y (y + air)
meet air turn k q x y sx sy room few origins at_x at_y = omega arith

-- transmissions of one step and one initiator start within 22 ticks
pub close : (air turn k x y s : ℕ) → k ≤ 11 → Near x (s + k * (air + turn)) k → Near y (s + k * (air + turn)) k → y ≤ x + 22
close air turn k x y s few at_x at_y = omega arith

-- within twelve steps
pub within : (air turn k x s : ℕ) → 23 < turn → k ≤ 11 → Near x (s + k * (air + turn)) k → (s ≤ x) × (x + air ≤ s + 12 * (air + turn))
within air turn k x s room few near =
    let some : 1 ≤ air + turn = omega arith in
    omega (arith, mul-le-mul_left k some, mul-le-mul_right (air + turn) few)
