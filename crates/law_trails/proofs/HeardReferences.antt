-- References of schedules that were received whole, and references that are moved on.
use Rattle.std.proofs.Common.{◌≡◌, ℕ, ◌+◌, ◌*◌, ◌-◌, ◌^◌, ◌≤◌, List, length, inl, inr, sym, subst, ap, arith}
use Rattle.std.proofs.Math.Nat.{mul-le-mul_right}
use Rattle.lwb_base.specs.Profile.{Numbers, airtime, step}
use Rattle.tick_clock.specs.Clocks.{Near, IsClock, due}
use Rattle.time_reference.specs.Budgets.{Budget, Fits, span}
use Rattle.time_reference.specs.Drift.{drift}
use Rattle.time_reference.specs.Reference.{stopped, heard_zero, host_zero}
use Rattle.time_reference.specs.Zeros.{start_tick, starting_offset, closing_offset, tick_at_offset, Ref, Good}
use Rattle.time_reference.proofs.BudgetRoom.{frame_order, window_order, window_room, packets_grow, packets_last}
use Rattle.time_reference.proofs.HeardZeros.{gives_zero}
use Rattle.time_reference.proofs.Points.{no_clamp}
use Rattle.time_reference.proofs.Rounds.{start}
use Rattle.time_reference.proofs.Steps.{flood_end, reference_error}
use Rattle.glossy_relay.specs.Relaying.{slot_of, counter_of}
use Rattle.node_core.specs.Nodes.{zero_from}
use Rattle.law_trails.proofs.UnstoppedTimes.{zero_low}

pub host_starts : (p : Numbers) (H : ℕ → ℕ) (c j : ℕ) → tick_at_offset H (host_zero p c) (starting_offset p j) ≡ start_tick p H c j
host_starts p H c j = ap (due H) (omega arith)

module _ (p : Numbers) (b : Budget) (fits : Fits p b) where
  -- the end of the reception comes so late that its beginning is not below 0, and within the ticks of the drift law
  pub zero_of_hearing : (H L : ℕ → ℕ) (c j n k s e : ℕ) → IsClock H → IsClock L → 1 ≤ c → c ≤ 4095 → j ≤ b.last → k ≤ 11 → n ≤ b.packet
      → drift (span p n + 11) + 12 ≤ 55 → Near s (start_tick p H c j + k * step p n) k → e ≡ s + airtime p n
      → Ref p b H L (heard_zero p (L e - airtime p n) k n j) c c j
  zero_of_hearing H L c j n k s e host clock begun within slot few short small near is =
      let some = packets_last p b fits n in
      let w = start p b fits H c j host begun within slot in
      let end = flood_end p n k s (start_tick p H c j) (omega arith) few near in
      let grow = (packets_grow p b fits n b.packet short).2 in
      let room = window_room p b fits in
      let order = frame_order p b fits in
      let window = window_order p b fits in
      let early : s + airtime p n ≤ 2 ^ 48 = omega (arith, w.in_run) in
      let error = reference_error p L n k s (start_tick p H c j) clock (omega arith) few near early in
      let late = no_clamp p b fits H L c j host clock begun within slot in
      let whole : airtime p n ≤ L (s + airtime p n) = omega (arith, error, late) in
      let z : Ref p b H L (heard_zero p (L (s + airtime p n) - airtime p n) k n j) c c j =
      (gives_zero p b fits H L c j n k s (L (s + airtime p n) - airtime p n) host clock begun within slot few near early (omega arith) small).1 in
      subst (λ (t : ℕ). Ref p b H L (heard_zero p (L t - airtime p n) k n j) c c j) (sym is) z

  pub heard_reference : (H L : ℕ → ℕ) (c s e : ℕ) (q : List ℕ) → IsClock H → IsClock L → 1 ≤ c → c ≤ 4095 → slot_of q ≤ b.last
      → counter_of q ≤ 11 → length q ≤ b.packet → drift (span p (length q) + 11) + 12 ≤ 55
      → Near s (start_tick p H c (slot_of q) + counter_of q * step p (length q)) (counter_of q) → e ≡ s + airtime p (length q)
      → Ref p b H L (zero_from p (L e) q) c c (slot_of q)
  heard_reference H L c s e q host clock begun within slot few short small near is =
      zero_of_hearing H L c (slot_of q) (length q) (counter_of q) s e host clock begun within slot few short small near is

  -- ---- moved on

  pub moved_sum : (H L : ℕ → ℕ) (z f c j g : ℕ) → IsClock H → IsClock L → Ref p b H L z f c j → f + g ≤ c + 4 → stopped (z + g * p.frame) ≡ z + g * p.frame
  moved_sum H L z f c j g host clock ref young =
      let low = zero_low p b fits H L z f c j host clock ref in
      let early : f + g ≤ 4099 = omega (arith, ref.in_run) in
      let frames = mul-le-mul_right p.frame early in
      let order = frame_order p b fits in
      omega arith

  moved_by : (H L : ℕ → ℕ) (z f c j g : ℕ) → Ref p b H L z f c j → f + g ≤ c + 4 → Ref p b H L (z + g * p.frame) (f + g) c j
  moved_by H L z f c j g ref young = record {
    begun = ref.begun;
    past = omega (arith, ref.past);
    young = young;
    in_run = ref.in_run;
    slot = ref.slot;
    near = omega (arith, ref.near);
  }

  pub moved_on : (H L : ℕ → ℕ) (z f c j g : ℕ) → IsClock H → IsClock L → Ref p b H L z f c j → f + g ≤ c + 4
      → Ref p b H L (stopped (z + g * p.frame)) (f + g) c j
  moved_on H L z f c j g host clock ref young =
      subst (λ (y : ℕ). Ref p b H L y (f + g) c j) (sym (moved_sum H L z f c j g host clock ref young)) (moved_by H L z f c j g ref young)

  pub good_ahead : (H L : ℕ → ℕ) (z c j g : ℕ) → IsClock H → IsClock L → Ref p b H L z c c j → 1 ≤ g → g ≤ 4
      → Good p b H L (stopped (z + g * p.frame)) (c + g) 0
  good_ahead H L z c j g host clock ref some few = record { c = c; j = j; ref = moved_on H L z c c j g host clock ref (omega arith); after = inl (omega arith) }

  pub good_now : (H L : ℕ → ℕ) (z c j : ℕ) → Ref p b H L z c c j → Good p b H L z c (closing_offset p j)
  good_now H L z c j ref = record { c = c; j = j; ref = ref; after = inr (omega arith) }
