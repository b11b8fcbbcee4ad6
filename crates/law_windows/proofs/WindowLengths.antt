-- When a window opens, against the other points of its round; and how long it is open.
use Rattle.std.proofs.Common.{◌≡◌, ℕ, suc, ◌+◌, ◌-◌, ◌*◌, ◌≤◌, ◌⊎◌, inl, inr, ap, arith}
use Rattle.std.proofs.Math.Nat.{mul-le-mul_right}
use Rattle.lwb_base.specs.Profile.{Numbers, airtime, step}
use Rattle.tick_clock.specs.Clocks.{Near, IsClock}
use Rattle.time_reference.specs.Budgets.{Budget, Fits}
use Rattle.time_reference.specs.Zeros.{Good, opening_offset, starting_offset, closing_offset, greatest, tick_at_offset, apart}
use Rattle.time_reference.proofs.BudgetRoom.{window_order}
use Rattle.time_reference.proofs.Points.{good_later}
use Rattle.time_reference.proofs.Rounds.{spread}

module _ (p : Numbers) (b : Budget) (fits : Fits p b) (H L : ℕ → ℕ) (host : IsClock H) (clock : IsClock L) (z f j opened : ℕ) (slot : j ≤ b.last)
    (good : Good p b H L z f (opening_offset p j)) where
  -- it opened as the window before closed by another zero, its own opening being past
  pub record OpenedLate : Type 0 where
    pub before : ℕ
    pub next : j ≡ suc before
    pub zero : ℕ
    pub old : Good p b H L zero f (closing_offset p before)
    pub at : opened ≡ tick_at_offset L zero (closing_offset p before)
    pub late : tick_at_offset L z (opening_offset p j) ≤ opened

  module _ (at : (opened ≡ tick_at_offset L z (opening_offset p j)) ⊎ OpenedLate) where
    -- the point q of any good zero comes as long after the opening as q comes after it, but for the difference of two zeros
    pub from_opening : (M : ℕ → ℕ) (y q : ℕ) → IsClock M → Good p b H M y f q → q ≤ greatest p b
        → Near (opened + q) (tick_at_offset M y q + opening_offset p j) (apart b)
    from_opening M y q other g low =
        let k = mul-le-mul_right p.slot slot in
        let window = window_order p b fits in
        let here = spread p b fits H L M z y f (j * p.slot) q host clock other good g (omega (arith, k)) low in
        elim at [
          | inl now ↦ omega (arith, here, now)
          | inr late ↦ (
              let size : j * p.slot ≡ suc late.before * p.slot = ap (λ (i : ℕ). i * p.slot) late.next in
              let there = spread p b fits H L M late.zero y f (late.before * p.slot + p.close) q host clock other
              late.old g (omega (arith, k, size, window)) low in
              let set = late.at in
              let past = late.late in
              omega (arith, here, there, set, past, size, window)
              )
        ]

    -- how long it is open
    pub open_for : Near (tick_at_offset L z (closing_offset p j)) (opened + p.close) (apart b)
    open_for =
        let k = mul-le-mul_right p.slot slot in
        let all = from_opening L z (closing_offset p j) clock (good_later p b fits H L z f (opening_offset p j) (closing_offset p j) (omega arith) good)
        (omega (arith, k)) in
        omega (arith, all)

    -- until a transmission of its flood with counter c ends, which another zero began
    pub sent_for : (M : ℕ → ℕ) (y c n start : ℕ) → IsClock M → Good p b H M y f (starting_offset p j)
        → Near start (tick_at_offset M y (starting_offset p j) + c * step p n) c
        → Near (start + airtime p n) (opened + (p.listen + (c + 1) * step p n - p.turn)) (apart b + c)
    sent_for M y c n start other g near =
        let k = mul-le-mul_right p.slot slot in
        let window = window_order p b fits in
        let all = from_opening M y (starting_offset p j) other g (omega (arith, k, window)) in
        omega (arith, all, near)
