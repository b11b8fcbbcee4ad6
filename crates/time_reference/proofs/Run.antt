-- One clock over the run.
use Rattle.std.proofs.Common.{◌≡◌, ℕ, ◌+◌, ◌*◌, ◌/◌, ◌-◌, ◌^◌, ◌<◌, ◌≤◌, ◌∙◌, ap, arith}
use Rattle.lwb_base.specs.Profile.{Numbers}
use Rattle.std.proofs.Math.Nat.{mul-le-mul_right}
use Rattle.std.proofs.lemmas.Nat.{div-mul-add}
use Rattle.lwb_base.specs.declared.limits.TheConstants.{MOST_FRAMES}
use Rattle.tick_clock.proofs.DueTicks.{due_is, due_at_most, due_after}
use Rattle.tick_clock.proofs.Readings.{rounded}
use Rattle.tick_clock.specs.Clocks.{IsClock, due}
use Rattle.time_reference.proofs.BudgetRoom.{frame_order, clock_room}
use Rattle.time_reference.specs.Budgets.{Budget, Fits}

module _ (p : Numbers) (b : Budget) (fits : Fits p b) (L : ℕ → ℕ) (clock : IsClock L) where
  pub in_run : (t : ℕ) → t ≤ MOST_FRAMES * p.frame → (L t + 1 ≤ t + b.clock) × (t + 256001 ≤ L t + b.clock)
  in_run t within =
      let r = rounded L 0 t t clock (omega arith) (omega arith) in
      omega (arith, clock_room p b fits)

  pub due_in_run : (x : ℕ) → x + b.clock ≤ MOST_FRAMES * p.frame → (x + 1 ≤ due L x + b.clock) × (due L x + 256001 ≤ x + b.clock)
  due_in_run x within =
      let room = clock_room p b fits in
      let late : ℕ = x + (b.clock - 256001) in
      let at = in_run late (omega arith) in
      let upper : due L x ≤ late = due_at_most L x late (omega arith) in
      let read = due_is L x clock (omega arith) in
      let at_due = in_run (due L x) (omega arith) in
      omega arith

  pub due_past_run : (x : ℕ) → MOST_FRAMES * p.frame + b.clock ≤ x → MOST_FRAMES * p.frame < due L x
  due_past_run x past =
      let at = in_run (MOST_FRAMES * p.frame) (omega arith) in
      due_after L x (MOST_FRAMES * p.frame) clock (omega arith) (omega arith)

  pub at_boot : (f : ℕ) → f ≤ 4095 → (L (f * p.frame) + p.lead) / p.frame ≡ f
  at_boot f within =
      let k = mul-le-mul_right p.frame within in
      let order = frame_order p b fits in
      let room = clock_room p b fits in
      let at = in_run (f * p.frame) (omega arith) in
      let r : ℕ = L (f * p.frame) + p.lead - f * p.frame in
      let is : L (f * p.frame) + p.lead ≡ f * p.frame + r = omega arith in
      ap (λ (n : ℕ). n / p.frame) is ∙ div-mul-add f p.frame r (omega arith)

  pub no_stop : (f : ℕ) → f ≤ MOST_FRAMES → ((f + 4) * p.frame + p.end + 2 * b.clock < 4103 * p.frame) × (4103 * p.frame < 2 ^ 45)
  no_stop f within =
      let k = mul-le-mul_right p.frame within in
      let order = frame_order p b fits in
      omega arith

  pub no_stop_reading : (t : ℕ) → t ≤ MOST_FRAMES * p.frame → (t < 2 ^ 45) × (L t + p.turn < 2 ^ 45)
  no_stop_reading t within =
      let order = frame_order p b fits in
      let room = clock_room p b fits in
      let at = in_run t within in
      omega arith

  pub alarm_after_start : (f : ℕ) → f ≤ MOST_FRAMES → (f * p.frame < due L (f * p.frame + p.end)) × (L (f * p.frame) < f * p.frame + p.end)
  alarm_after_start f within =
      let k = mul-le-mul_right p.frame within in
      let order = frame_order p b fits in
      let room = clock_room p b fits in
      let at = in_run (f * p.frame) (omega arith) in
      let early : L (f * p.frame) < f * p.frame + p.end = omega arith in
      (due_after L (f * p.frame + p.end) (f * p.frame) clock (omega arith) early, early)

  pub alarm_before_next : (f : ℕ) → f ≤ 4095 → due L (f * p.frame + p.end) < (f + 1) * p.frame
  alarm_before_next f within =
      let k = mul-le-mul_right p.frame within in
      let due = due_in_run (f * p.frame + p.end) (omega arith) in
      omega arith
