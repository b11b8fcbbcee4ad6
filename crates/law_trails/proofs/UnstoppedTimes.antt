-- No time of a run stops, and relays begin a turnaround after the end of what was received.
use Rattle.std.proofs.Common.{◌≡◌, ℕ, ◌+◌, ◌*◌, ◌/◌, ◌<◌, ◌≤◌, ap, subst, arith}
use Rattle.std.proofs.Math.Nat.{mul-le-mul_right}
use Rattle.lwb_base.specs.declared.limits.TheConstants.{MOST_FRAMES}
use Rattle.lwb_base.specs.Profile.{Numbers, airtime, step}
use Rattle.tick_clock.specs.Clocks.{Near, IsClock, due}
use Rattle.tick_clock.proofs.DueTicks.{turn}
use Rattle.time_reference.specs.Budgets.{Budget, Fits}
use Rattle.time_reference.specs.Reference.{stopped, host_zero}
use Rattle.time_reference.specs.Zeros.{start_tick, Ref, Good}
use Rattle.time_reference.proofs.BudgetRoom.{frame_order, window_order}
use Rattle.time_reference.proofs.Rounds.{start}
use Rattle.time_reference.proofs.Run.{in_run, at_boot, no_stop_reading}
use Rattle.time_reference.proofs.Steps.{chain}
use Rattle.node_core.specs.Nodes.{frame_alarm, zero_of_host, stopped_frame}
use Rattle.law_trails.specs.NodeTimes.{AreSums, relay_tick}

module _ (p : Numbers) (b : Budget) (fits : Fits p b) where
  -- a zero by a reference lies in its frame
  pub zero_low : (H L : ℕ → ℕ) (z f c j : ℕ) → IsClock H → IsClock L → Ref p b H L z f c j → z ≤ f * p.frame + p.lead + 2 * b.clock
  zero_low H L z f c j host clock ref =
      let w = start p b fits H c j host ref.begun ref.in_run ref.slot in
      let reads = in_run p b fits L clock (start_tick p H c j) (omega (arith, w.in_run)) in
      omega (arith, ref.near, w.below, reads)

  pub slots_are_sums : (H L : ℕ → ℕ) (z f from j : ℕ) → IsClock H → IsClock L → Good p b H L z f from → j ≤ b.last → AreSums p z j
  slots_are_sums H L z f from j host clock good slot =
      let low = zero_low H L z f good.c good.j host clock good.ref in
      let early : f ≤ 4099 = omega (arith, good.ref.young, good.ref.in_run) in
      let frames = mul-le-mul_right p.frame early in
      let slots = mul-le-mul_right p.slot slot in
      let order = frame_order p b fits in
      let window = window_order p b fits in
      record { opens = omega arith; starts = omega arith; closes = omega arith }

  pub host_sum : (f : ℕ) → f ≤ 4100 → zero_of_host p f ≡ host_zero p f
  host_sum f early =
      let frames = mul-le-mul_right p.frame early in
      let order = frame_order p b fits in
      omega arith

  pub alarm_sum : (f : ℕ) → f ≤ 4100 → frame_alarm p f ≡ f * p.frame + p.end
  alarm_sum f early =
      let frames = mul-le-mul_right p.frame early in
      let order = frame_order p b fits in
      omega arith

  pub boots_in_frame : (L : ℕ → ℕ) → IsClock L → (f : ℕ) → f ≤ 4095 → stopped_frame ((L (f * p.frame) + p.lead) / p.frame) ≡ f
  boots_in_frame L clock f early = omega (arith, at_boot p b fits L clock f early)

  -- ---- relays

  pub turn_sum : (L : ℕ → ℕ) → IsClock L → (t : ℕ) → t ≤ MOST_FRAMES * p.frame → stopped (L t + p.turn) ≡ L t + p.turn
  turn_sum L clock t within = omega (arith, no_stop_reading p b fits L clock t within)

  pub turned_near : (L : ℕ → ℕ) → IsClock L → (t : ℕ) → t ≤ MOST_FRAMES * p.frame → Near (due L (L t + p.turn)) (t + p.turn) 1
  turned_near L clock t within = turn L p.turn t clock (omega arith) (omega (arith, fits.turn_short)) (omega (arith, no_stop_reading p b fits L clock t within))

  pub relay_is : (L : ℕ → ℕ) → IsClock L → (t : ℕ) → t ≤ MOST_FRAMES * p.frame → relay_tick p L t ≡ due L (L t + p.turn)
  relay_is L clock t within =
      let near = turned_near L clock t within in
      let same : due L (stopped (L t + p.turn)) ≡ due L (L t + p.turn) = ap (due L) (turn_sum L clock t within) in
      omega arith

  pub relay_near : (L : ℕ → ℕ) → IsClock L → (t : ℕ) → t ≤ MOST_FRAMES * p.frame → Near (relay_tick p L t) (t + p.turn) 1
  relay_near L clock t within = omega (arith, relay_is L clock t within, turned_near L clock t within)

  pub relay_after : (L : ℕ → ℕ) → IsClock L → (t : ℕ) → t ≤ MOST_FRAMES * p.frame → t < relay_tick p L t
  relay_after L clock t within = omega (arith, relay_is L clock t within, turned_near L clock t within)

  -- what was received with counter k is relayed a step later
  pub relay_follows : (L : ℕ → ℕ) → IsClock L → (n k s t origin : ℕ) → t ≤ MOST_FRAMES * p.frame → t ≡ s + airtime p n
      → Near s (origin + k * step p n) k → Near (relay_tick p L t) (origin + (k + 1) * step p n) (k + 1)
  relay_follows L clock n k s t origin within is near =
      chain p n k s (relay_tick p L t) origin near (subst (λ (e : ℕ). Near (relay_tick p L t) (e + p.turn) 1) is (relay_near L clock t within))
