-- The points of one round: their places in the frame and their order.
use Rattle.std.proofs.Common.{◌≡◌, ℕ, ◌+◌, ◌*◌, ◌/◌, ◌-◌, ◌<◌, ◌≤◌, max, inl, inr, ap, arith}
use Rattle.lwb_base.specs.Profile.{Numbers}
use Rattle.std.proofs.Math.Nat.{mul-le-mul_right}
use Rattle.lwb_base.specs.declared.limits.TheConstants.{MOST_FRAMES}
use Rattle.tick_clock.proofs.DueTicks.{overshoot}
use Rattle.tick_clock.proofs.Readings.{rounded}
use Rattle.tick_clock.specs.Clocks.{Near, IsClock, due}
use Rattle.time_reference.proofs.BudgetRoom.{window_order, window_room, frame_order, clock_room, packets_grow, drift_is_small, ages_end}
use Rattle.time_reference.proofs.Rounds.{places, start, has_age, spread, point_by_age}
use Rattle.time_reference.proofs.Run.{in_run, due_in_run}
use Rattle.time_reference.specs.Budgets.{Budget, Fits, span}
use Rattle.time_reference.specs.Zeros.{start_tick, Ref, Good}

module _ (p : Numbers) (b : Budget) (fits : Fits p b) where
  -- ---- where references come from

  pub good_later : (H L : ℕ → ℕ) (z f q r : ℕ) → q ≤ r → Good p b H L z f q → Good p b H L z f r
  good_later H L z f q r order g = record { c = g.c; j = g.j; ref = g.ref; after = elim g.after [ inl before ↦ inl before | inr later ↦ inr (omega arith) ] }

  pub host_good : (H : ℕ → ℕ) (f : ℕ) → IsClock H → 2 ≤ f → f ≤ MOST_FRAMES → Good p b H H (f * p.frame + p.lead) f 0
  host_good H f clock begun within =
      let c : ℕ = f - 1 in
      let w = start p b fits H c 0 clock (omega arith) (omega arith) (omega arith) in
      let same : (c + 1) * p.frame ≡ f * p.frame = ap (λ (n : ℕ). n * p.frame) (omega arith) in
      record {
        c = c;
        j = 0;
        ref = record {
          begun = omega arith;
          past = omega arith;
          young = omega arith;
          in_run = omega arith;
          slot = omega arith;
          near = omega (arith, w.reads, same);
        };
        after = inl (omega arith);
      }

  pub heard_now : (H L : ℕ → ℕ) (z c j y : ℕ) → 1 ≤ c → c ≤ 4095 → j ≤ b.last → Near y (L (start_tick p H c j)) 55
      → y ≡ z + j * p.slot + p.listen → Ref p b H L z c c j
  heard_now H L z c j y begun within slot near is =
      record { begun = begun; past = omega arith; young = omega arith; in_run = within; slot = slot; near = omega arith }

  pub heard_ahead : (H L : ℕ → ℕ) (z c j y g : ℕ) → 1 ≤ c → c ≤ 4095 → j ≤ b.last → Near y (L (start_tick p H c j)) 55
      → y ≡ z + j * p.slot + p.listen → g ≤ 4 → Ref p b H L (z + g * p.frame) (c + g) c j
  heard_ahead H L z c j y g begun within slot near is few =
      record { begun = begun; past = omega arith; young = omega arith; in_run = within; slot = slot; near = omega arith }

  pub no_clamp : (H L : ℕ → ℕ) (c j : ℕ) → IsClock H → IsClock L → 1 ≤ c → c ≤ 4095 → j ≤ b.last → p.listen + j * p.slot + 55 ≤ L (start_tick p H c j)
  no_clamp H L c j host clock begun within slot =
      let w = start p b fits H c j host begun within slot in
      let reads = in_run p b fits L clock (start_tick p H c j) (omega (arith, w.in_run)) in
      let d = mul-le-mul_right p.frame begun in
      omega (arith, w.above)

  -- ---- places in the frame

  pub place : (H L : ℕ → ℕ) (z f q : ℕ) → IsClock H → IsClock L → Good p b H L z f q → q ≤ b.last * p.slot + p.close
      → Near (due L (z + q)) (f * p.frame + p.lead + q) (b.clock + b.zeros)
  place H L z f q host clock g low =
      let m = has_age p b fits H L z f g.c g.j q g.ref g.after in
      let w = start p b fits H g.c g.j host g.ref.begun g.ref.in_run g.ref.slot in
      let at = point_by_age p b fits H L z f g.c g.j q m.0 host clock g.ref low g.after m.1 in
      let drift = drift_is_small p b fits in
      omega (arith, at, m.1, w.above, w.below)

  pub after_start : (H L : ℕ → ℕ) (z f : ℕ) → IsClock H → IsClock L → Good p b H L z f 0 → f * p.frame < due L (z + 0)
  after_start H L z f host clock g = omega (arith, place H L z f 0 host clock g (omega arith))

  pub before_alarm : (H L L' : ℕ → ℕ) (z f q : ℕ) → IsClock H → IsClock L → IsClock L' → Good p b H L z f q → q ≤ b.last * p.slot + p.close
      → f ≤ 4095 → due L (z + q) < due L' (f * p.frame + p.end)
  before_alarm H L L' z f q host clock other g low within =
      let k = mul-le-mul_right p.frame within in
      let at = place H L z f q host clock g low in
      let alarm = due_in_run p b fits L' other (f * p.frame + p.end) (omega arith) in
      omega arith

  -- ---- the order of the points of a round

  module _ (H L1 L2 : ℕ → ℕ) (z1 z2 f : ℕ) (host : IsClock H) (clock1 : IsClock L1) (clock2 : IsClock L2) where
    pub opens_before_starts : (j : ℕ) → j ≤ b.last → Good p b H L1 z1 f (j * p.slot) → Good p b H L2 z2 f (j * p.slot + p.listen)
        → due L1 (z1 + j * p.slot) < due L2 (z2 + (j * p.slot + p.listen))
    opens_before_starts j slot g1 g2 =
        let k = mul-le-mul_right p.slot slot in
        let window = window_order p b fits in
        omega (arith, spread p b fits H L1 L2 z1 z2 f (j * p.slot) (j * p.slot + p.listen) host clock1 clock2 g1 g2 (omega arith) (omega arith))

    pub closes_before_next_starts : (j j' : ℕ) → j < j' → j' ≤ b.last → Good p b H L1 z1 f (j * p.slot + p.close) → Good p b H L2 z2 f (j' * p.slot + p.listen)
        → due L1 (z1 + (j * p.slot + p.close)) < due L2 (z2 + (j' * p.slot + p.listen))
    closes_before_next_starts j j' less slot g1 g2 =
        let k = mul-le-mul_right p.slot slot in
        let n = mul-le-mul_right p.slot less in
        let window = window_order p b fits in
        omega (arith, spread p b fits H L1 L2 z1 z2 f (j * p.slot + p.close) (j' * p.slot + p.listen) host clock1 clock2 g1 g2 (omega arith) (omega arith))

    pub closes_before_next_closes : (j : ℕ) → j + 1 ≤ b.last → Good p b H L1 z1 f ((j + 1) * p.slot + p.close) → Good p b H L2 z2 f (j * p.slot + p.close)
        → due L2 (z2 + (j * p.slot + p.close)) < due L1 (z1 + ((j + 1) * p.slot + p.close))
    closes_before_next_closes j slot g1 g2 =
        let k = mul-le-mul_right p.slot slot in
        let window = window_order p b fits in
        omega (arith, spread p b fits H L1 L2 z1 z2 f ((j + 1) * p.slot + p.close) (j * p.slot + p.close) host clock1 clock2 g1 g2 (omega arith) (omega arith))

    pub closes_after_relays : (j n : ℕ) → j ≤ b.last → n ≤ b.packet → Good p b H L1 z1 f (j * p.slot + p.listen) → Good p b H L2 z2 f (j * p.slot + p.close)
        → due L1 (z1 + (j * p.slot + p.listen)) + span p n + 11 + 175 ≤ due L2 (z2 + (j * p.slot + p.close))
    closes_after_relays j n slot size g1 g2 =
        let k = mul-le-mul_right p.slot slot in
        let window = window_order p b fits in
        let room = window_room p b fits in
        let grow = (packets_grow p b fits n b.packet size).2 in
        omega (arith, spread p b fits H L1 L2 z1 z2 f (j * p.slot + p.listen) (j * p.slot + p.close) host clock1 clock2 g1 g2 (omega arith) (omega arith))

    pub relays_before_next_starts : (j j' n : ℕ) → j < j' → j' ≤ b.last → n ≤ b.packet → Good p b H L1 z1 f (j * p.slot + p.listen)
        → Good p b H L2 z2 f (j' * p.slot + p.listen)
        → due L1 (z1 + (j * p.slot + p.listen)) + span p n + 11 < due L2 (z2 + (j' * p.slot + p.listen))
    relays_before_next_starts j j' n less slot size g1 g2 =
        let k = mul-le-mul_right p.slot slot in
        let m = mul-le-mul_right p.slot less in
        let window = window_order p b fits in
        let room = window_room p b fits in
        let grow = (packets_grow p b fits n b.packet size).2 in
        omega (arith, spread p b fits H L1 L2 z1 z2 f (j * p.slot + p.listen) (j' * p.slot + p.listen) host clock1 clock2 g1 g2 (omega arith) (omega arith))

    pub relays_before_next_opens : (j j' n : ℕ) → j < j' → j' ≤ b.last → n ≤ b.packet → Good p b H L1 z1 f (j * p.slot + p.listen)
        → Good p b H L2 z2 f (j' * p.slot)
        → due L1 (z1 + (j * p.slot + p.listen)) + span p n + 11 < due L2 (z2 + j' * p.slot)
    relays_before_next_opens j j' n less slot size g1 g2 =
        let k = mul-le-mul_right p.slot slot in
        let m = mul-le-mul_right p.slot less in
        let window = window_order p b fits in
        let room = window_room p b fits in
        let grow = (packets_grow p b fits n b.packet size).2 in
        omega (arith, spread p b fits H L1 L2 z1 z2 f (j * p.slot + p.listen) (j' * p.slot) host clock1 clock2 g1 g2 (omega arith) (omega arith))

  pub opens_before_closes : (H L : ℕ → ℕ) (z f j : ℕ) → IsClock H → IsClock L → j ≤ b.last → Good p b H L z f (j * p.slot)
      → due L (z + j * p.slot) < due L (z + (j * p.slot + p.close))
  opens_before_closes H L z f j host clock slot g =
      let k = mul-le-mul_right p.slot slot in
      let window = window_order p b fits in
      omega (
        arith,
        spread p b fits H L L z z f (j * p.slot) (j * p.slot + p.close) host clock clock g
            (good_later H L z f (j * p.slot) (j * p.slot + p.close) (omega arith) g) (omega arith) (omega arith),
      )

  pub starts_before_closes : (H L : ℕ → ℕ) (z f j : ℕ) → IsClock H → IsClock L → j ≤ b.last → Good p b H L z f (j * p.slot + p.listen)
      → due L (z + (j * p.slot + p.listen)) < due L (z + (j * p.slot + p.close))
  starts_before_closes H L z f j host clock slot g =
      let k = mul-le-mul_right p.slot slot in
      let window = window_order p b fits in
      let room = window_room p b fits in
      omega (
        arith,
        spread p b fits H L L z z f (j * p.slot + p.listen) (j * p.slot + p.close) host clock clock g
            (good_later H L z f (j * p.slot + p.listen) (j * p.slot + p.close) (omega arith) g) (omega arith) (omega arith),
      )

  -- ---- a window that opens late

  pub late_opening : (H L : ℕ → ℕ) (z z' f : ℕ) → IsClock H → IsClock L → 1 ≤ b.last → Good p b H L z f (1 * p.slot) → Good p b H L z' f p.close
      → max (due L (z + 1 * p.slot)) (due L (z' + p.close)) < due L (z + (1 * p.slot + p.listen))
  late_opening H L z z' f host clock some g g' =
      let started = good_later H L z f (1 * p.slot) (1 * p.slot + p.listen) (omega arith) g in
      let nominal = opens_before_starts H L L z z f host clock clock 1 some g started in
      let zero_slot : Good p b H L z' f (0 * p.slot + p.close) = good_later H L z' f p.close (0 * p.slot + p.close) (omega arith) g' in
      let late = closes_before_next_starts H L L z' z f host clock clock 0 1 (omega arith) some zero_slot started in
      let same : due L (z' + (0 * p.slot + p.close)) ≡ due L (z' + p.close) = ap (λ (n : ℕ). due L n) (omega arith) in
      omega arith

  -- how late, on the node's own clock
  pub lateness : (H L : ℕ → ℕ) (z z' f : ℕ) → IsClock H → IsClock L → 1 ≤ b.last → Good p b H L z f (1 * p.slot) → Good p b H L z' f p.close
      → due L (z + 1 * p.slot) ≤ due L (z' + p.close)
      → L (due L (z' + p.close)) + p.slot ≤ z + 1 * p.slot + p.close + (2 * (b.age / 50000) + 114) + 3 + (2 * (b.age / 50000) + 114) / 50000
  lateness H L z z' f host clock some g g' order =
      let k = mul-le-mul_right p.slot some in
      let window = window_order p b fits in
      let frames = frame_order p b fits in
      let near = spread p b fits H L L z z' f (1 * p.slot) p.close host clock clock g g' (omega arith) (omega arith) in
      let at = place H L z f (1 * p.slot) host clock g (omega arith) in
      let at' = place H L z' f p.close host clock g' (omega arith) in
      let w = start p b fits H g.c g.j host g.ref.begun g.ref.in_run g.ref.slot in
      let reads = in_run p b fits L clock (start_tick p H g.c g.j) (omega (arith, w.in_run)) in
      let places1 = places p b fits H L z f g.c g.j g.ref in
      let end = ages_end p b fits in
      let room = clock_room p b fits in
      let some_tick : 0 < due L (z + 1 * p.slot) = omega arith in
      let over = overshoot L (z + 1 * p.slot) clock (omega arith) some_tick in
      let d : ℕ = due L (z' + p.close) - due L (z + 1 * p.slot) in
      let is : due L (z' + p.close) ≡ due L (z + 1 * p.slot) + d = omega arith in
      let drift = rounded L (due L (z + 1 * p.slot)) d (due L (z' + p.close)) clock is (omega arith) in
      omega arith
