-- The steps of one flood, and contenders.
use Rattle.std.proofs.Common.{◌≡◌, ℕ, ◌+◌, ◌*◌, ◌/◌, ◌-◌, ◌^◌, ◌<◌, ◌≤◌, subst, arith}
use Rattle.lwb_base.specs.Profile.{Numbers, airtime, step, one}
use Rattle.std.proofs.Math.Nat.{mul-le-mul_right, mul-le-mul_left}
use Rattle.tick_clock.proofs.DueTicks.{turn}
use Rattle.tick_clock.proofs.Readings.{rounded}
use Rattle.tick_clock.specs.Clocks.{Near, IsClock, due}
use Rattle.time_reference.proofs.Ages.{age}
use Rattle.time_reference.proofs.BudgetRoom.{frame_order, contenders_cover_drift, drift_is_small, ages_end}
use Rattle.time_reference.proofs.Rounds.{places, start}
use Rattle.time_reference.proofs.Run.{in_run}
use Rattle.time_reference.specs.Budgets.{Budget, Fits, span}
use Rattle.time_reference.specs.Floods.{Overlap}
use Rattle.time_reference.specs.Zeros.{start_tick, Ref}

pub chain : (p : Numbers) (n k s s' s0 : ℕ) → Near s (s0 + k * step p n) k → Near s' (s + airtime p n + p.turn) 1 → Near s' (s0 + (k + 1) * step p n) (k + 1)
chain p n k s s' s0 near one = omega arith

pub together : (p : Numbers) (b : Budget) → Fits p b → (n k s t s0 : ℕ) → k ≤ 11 → Near s (s0 + k * step p n) k
    → Near t (s0 + k * step p n) k → Near s t (2 * k) × (2 * k ≤ p.delta)
together p b fits n k s t s0 few near near' = omega arith

pub flood_end : (p : Numbers) (n k s s0 : ℕ) → 1 ≤ step p n → k ≤ 11 → Near s (s0 + k * step p n) k → (s + airtime p n ≤ s0 + span p n + 11) × (s0 ≤ s)
flood_end p n k s s0 some few near = omega (arith, mul-le-mul_right (step p n) few, mul-le-mul_left k some)

pub reference_error : (p : Numbers) (L : ℕ → ℕ) (n k s s0 : ℕ) → IsClock L → 1 ≤ step p n → k ≤ 11 → Near s (s0 + k * step p n) k → s + airtime p n ≤ 2 ^ 48
    → Near (L (s + airtime p n)) (L s0 + k * step p n + airtime p n) ((span p n + 11) / 50000 + 12)
reference_error p L n k s s0 clock some few near within =
    let end = flood_end p n k s s0 some few near in
    let d : ℕ = s + airtime p n - s0 in
    let is : s + airtime p n ≡ s0 + d = omega arith in
    let drift = rounded L s0 d (s + airtime p n) clock is within in
    omega arith

pub small_error : (p : Numbers) (L : ℕ → ℕ) (n k s s0 : ℕ) → IsClock L → 1 ≤ step p n → k ≤ 11 → Near s (s0 + k * step p n) k
    → s + airtime p n ≤ 2 ^ 48 → (span p n + 11) / 50000 + 12 ≤ 55
    → Near (L (s + airtime p n)) (L s0 + k * step p n + airtime p n) 55
small_error p L n k s s0 clock some few near within small = omega (arith, reference_error p L n k s s0 clock some few near within)

pub of_61 : (p : Numbers) (n : ℕ) → p.byte ≡ 2048 → p.turn ≡ 12288 → n ≤ 61 → (span p n + 11) / 50000 + 12 ≤ 48
of_61 p n byte turn size = rw (byte, turn) (omega arith)

pub of_74 : (p : Numbers) (n : ℕ) → p.byte ≡ 2048 → p.turn ≡ 12288 → n ≤ 74 → (span p n + 11) / 50000 + 12 ≤ 55
of_74 p n byte turn size = rw (byte, turn) (omega arith)

pub steps_apart : (p : Numbers) (n k r q x y sx sy : ℕ) → q + 23 < p.turn → k + 1 + r ≤ 11 → Near sx sy q → Near x (sx + k * step p n) k
    → Near y (sy + (k + 1 + r) * step p n) (k + 1 + r) → x + airtime p n < y
steps_apart p n k r q x y sx sy room few origins at_x at_y =
    let some : 1 ≤ step p n = omega arith in
    omega (arith, mul-le-mul_left r some)

pub steps_in_order : (p : Numbers) (n k k' q x y sx sy : ℕ) → q + 23 < p.turn → k < k' → k' ≤ 11 → Near sx sy q
    → Near x (sx + k * step p n) k → Near y (sy + k' * step p n) k' → x + airtime p n < y
steps_in_order p n k k' q x y sx sy room less few origins at_x at_y =
    let r : ℕ = k' - (k + 1) in
    let is : k' ≡ k + 1 + r = omega arith in
    steps_apart p n k r q x y sx sy room (omega arith) origins at_x (subst (λ (i : ℕ). Near y (sy + i * step p n) i) is at_y)

pub one_step : (p : Numbers) (n k q x y sx sy : ℕ) → q + 22 < airtime p n → k ≤ 11 → Near sx sy q → Near x (sx + k * step p n) k → Near y (sy + k * step p n) k
    → Near x y (q + 2 * k) × Overlap x (x + airtime p n) y (y + airtime p n)
one_step p n k q x y sx sy room few origins at_x at_y = omega arith

module _ (p : Numbers) (b : Budget) (fits : Fits p b) where
  abbrev few_drift : ℕ
  few_drift = (b.last * p.slot + p.listen) / 50000

  contender : (H L : ℕ → ℕ) (z f j : ℕ) → IsClock H → IsClock L → Ref p b H L z f f 0 → 1 ≤ j → j < b.last
      → Near (due L (z + (j * p.slot + p.listen))) (start_tick p H f 0 + j * p.slot) (few_drift + 56)
  contender H L z f j host clock ref some less =
      let at = places p b fits H L z f f 0 ref in
      let w = start p b fits H f 0 host ref.begun ref.in_run ref.slot in
      let k = mul-le-mul_right p.slot some in
      let m = mul-le-mul_right p.slot less in
      let drift = drift_is_small p b fits in
      let small = contenders_cover_drift p b fits in
      let order = frame_order p b fits in
      let end = ages_end p b fits in
      let reads = in_run p b fits L clock (start_tick p H f 0) (omega arith) in
      let near : Near (L (start_tick p H f 0) + j * p.slot) (z + (j * p.slot + p.listen)) 55 = omega (arith, ref.near) in
      omega (
        arith,
        age L (b.last * p.slot + p.listen) (start_tick p H f 0) (j * p.slot) (z + (j * p.slot + p.listen)) 55 clock near
            (omega arith) (omega arith) (omega arith),
      )

  pub contenders : (H L1 L2 : ℕ → ℕ) (z1 z2 f j : ℕ) → IsClock H → IsClock L1 → IsClock L2 → Ref p b H L1 z1 f f 0 → Ref p b H L2 z2 f f 0 → 1 ≤ j → j < b.last
      → Near (due L1 (z1 + (j * p.slot + p.listen))) (due L2 (z2 + (j * p.slot + p.listen))) (2 * few_drift + 112) × (2 * few_drift + 112 + 48 ≤ b.contenders)
  contenders H L1 L2 z1 z2 f j host clock1 clock2 ref1 ref2 some less =
      let first = contender H L1 z1 f j host clock1 ref1 some less in
      let second = contender H L2 z2 f j host clock2 ref2 some less in
      let small = contenders_cover_drift p b fits in
      omega arith
