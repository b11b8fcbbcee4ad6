-- What follows from numbers that fit.
use Rattle.std.proofs.Common.{ℕ, ◌+◌, ◌*◌, ◌/◌, ◌^◌, ◌<◌, ◌≤◌, arith}
use Rattle.lwb_base.specs.Profile.{Numbers, airtime, step}
use Rattle.std.proofs.Math.Nat.{mul-le-mul_right}
use Rattle.lwb_base.specs.declared.limits.TheConstants.{MOST_FRAMES}
use Rattle.time_reference.specs.Budgets.{Budget, Fits, span}

module _ (p : Numbers) (b : Budget) (fits : Fits p b) where
  -- the drift of two clocks over the age of a reference
  pub zeros_cover_drift : 2 * (b.age / 50000) + 160 ≤ b.zeros
  zeros_cover_drift = omega arith

  pub window_order : (2 * (b.age / 50000) + 114 + 46 ≤ b.zeros) × (b.zeros < p.listen) × (p.listen < p.close) × (p.close < p.slot)
  window_order = omega arith

  pub window_room : p.listen + span p b.packet + (2 * (b.age / 50000) + 114) + 186 ≤ p.close
  window_room = omega arith

  pub frame_order : (p.lead ≤ p.end) × (p.lead + b.clock < p.frame) × (b.last * p.slot + p.listen + b.zeros < p.frame)
      × (p.lead + b.last * p.slot + p.listen + b.clock < p.frame)
  frame_order = omega (arith, window_order)

  pub clock_room : (256002 + MOST_FRAMES * p.frame / 50000 ≤ b.clock) × (b.clock + b.zeros < p.lead)
  clock_room = omega arith

  pub contenders_cover_drift : (2 * ((b.last * p.slot + p.listen) / 50000) + 160 ≤ b.contenders) × ((b.last * p.slot + p.listen) / 50000 ≤ b.age / 50000)
  contenders_cover_drift = omega (arith, window_order)

  pub packets_grow : (n m : ℕ) → n ≤ m → (airtime p n ≤ airtime p m) × (step p n ≤ step p m) × (span p n ≤ span p m)
  packets_grow n m order = omega (arith, mul-le-mul_right p.byte order)

  pub packets_last : (n : ℕ) → (p.turn < step p n) × (24 ≤ p.turn) × (22 < airtime p 7) × (7 ≤ n → airtime p 7 ≤ airtime p n)
  packets_last n = (omega arith, omega arith, omega arith, λ long. omega (arith, mul-le-mul_right p.byte long))

  pub drift_is_small : (b.age / 50000 + 57 < b.zeros) × (b.age / 50000 + 57 < p.slot) × (2 * (b.age / 50000) + 58 < p.listen)
  drift_is_small = omega (arith, window_order)

  pub ages_end : b.age + MOST_FRAMES * p.frame ≤ 2 ^ 48
  ages_end = omega (arith, window_order, frame_order)
