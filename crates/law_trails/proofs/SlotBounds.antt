-- Transmissions end in their slot and in their frame.
use Rattle.std.proofs.Common.{◌≡◌, ℕ, ◌+◌, ◌*◌, ◌<◌, ◌≤◌, arith}
use Rattle.std.proofs.Math.Nat.{mul-le-mul_right}
use Rattle.lwb_base.specs.Profile.{Numbers, airtime}
use Rattle.tick_clock.specs.Clocks.{IsClock, due}
use Rattle.time_reference.specs.Budgets.{Budget, Fits}
use Rattle.time_reference.specs.Zeros.{starting_offset, closing_offset, tick_at_offset, Good}
use Rattle.time_reference.proofs.BudgetRoom.{clock_room, packets_last, window_order}
use Rattle.time_reference.proofs.Points.{before_alarm, closes_after_relays, good_later, place, relays_before_next_starts}
use Rattle.time_reference.proofs.Run.{alarm_before_next}
use Rattle.time_reference.proofs.Steps.{flood_end}
use Rattle.law_trails.specs.NodeTimes.{InFlood, relay_tick}
use Rattle.law_trails.proofs.UnstoppedTimes.{relay_follows}

module _ (p : Numbers) (b : Budget) (fits : Fits p b) where
  -- before every window of its slot closes
  pub ends_in_slot : (H S L : ℕ → ℕ) (y z f j n k s : ℕ) → IsClock H → IsClock S → IsClock L → j ≤ b.last → n ≤ b.packet
      → Good p b H S y f (starting_offset p j) → Good p b H L z f (closing_offset p j) → InFlood p S y j n k s
      → s + airtime p n + 175 ≤ tick_at_offset L z (closing_offset p j)
  ends_in_slot H S L y z f j n k s host first clock slot short began closes flood =
      let some = packets_last p b fits n in
      let end = flood_end p n k s (tick_at_offset S y (starting_offset p j)) (omega arith) flood.few flood.near in
      omega (arith, closes_after_relays p b fits H S L y z f host first clock j n slot short began closes)

  -- in its frame, and before every node's frame alarm
  pub starts_in_frame : (H S : ℕ → ℕ) (y f j n k s : ℕ) → IsClock H → IsClock S → j ≤ b.last → Good p b H S y f (starting_offset p j)
      → InFlood p S y j n k s → f * p.frame < s
  starts_in_frame H S y f j n k s host first slot began flood =
      let some = packets_last p b fits n in
      let end = flood_end p n k s (tick_at_offset S y (starting_offset p j)) (omega arith) flood.few flood.near in
      let slots = mul-le-mul_right p.slot slot in
      let window = window_order p b fits in
      let room = clock_room p b fits in
      omega (arith, place p b fits H S y f (starting_offset p j) host first began (omega arith))

  pub ends_before_alarm : (H S L : ℕ → ℕ) (y f j n k s : ℕ) → IsClock H → IsClock S → IsClock L → j ≤ b.last → n ≤ b.packet → f ≤ 4095
      → Good p b H S y f (starting_offset p j) → InFlood p S y j n k s → s + airtime p n < due L (f * p.frame + p.end)
  ends_before_alarm H S L y f j n k s host first clock slot short early began flood =
      let slots = mul-le-mul_right p.slot slot in
      let window = window_order p b fits in
      let closes = good_later p b fits H S y f (starting_offset p j) (closing_offset p j) (omega arith) began in
      let ends = ends_in_slot H S S y y f j n k s host first first slot short began closes flood in
      let alarm = before_alarm p b fits H S L y f (closing_offset p j) host first clock closes (omega arith) early in
      omega arith

  pub ends_in_frame : (H S : ℕ → ℕ) (y f j n k s : ℕ) → IsClock H → IsClock S → j ≤ b.last → n ≤ b.packet → f ≤ 4095
      → Good p b H S y f (starting_offset p j) → InFlood p S y j n k s → s + airtime p n < (f + 1) * p.frame
  ends_in_frame H S y f j n k s host first slot short early began flood =
      let alarm = ends_before_alarm H S S y f j n k s host first first slot short early began flood in
      let next = alarm_before_next p b fits S first f early in
      omega arith

  -- so does the relay of what was received with a counter below 11
  pub relay_in_flood : (H S L : ℕ → ℕ) (y f j n k s t : ℕ) → IsClock H → IsClock S → IsClock L → j ≤ b.last → n ≤ b.packet → f ≤ 4095
      → Good p b H S y f (starting_offset p j) → InFlood p S y j n k s → k < 11 → t ≡ s + airtime p n → InFlood p S y j n (k + 1) (relay_tick p L t)
  relay_in_flood H S L y f j n k s t host first clock slot short early began flood more ends =
      let in_frame = ends_in_frame H S y f j n k s host first slot short early began flood in
      let frames = mul-le-mul_right p.frame early in
      record { few = omega arith; near = relay_follows p b fits L clock n k s t (tick_at_offset S y (starting_offset p j)) (omega arith) ends flood.near }

  -- and a transmission of an earlier slot ends before one of a later slot starts
  pub slots_apart : (H S R : ℕ → ℕ) (y z f i j n m k l s t : ℕ) → IsClock H → IsClock S → IsClock R → i < j → j ≤ b.last → n ≤ b.packet
      → Good p b H S y f (starting_offset p i) → Good p b H R z f (starting_offset p j) → InFlood p S y i n k s → InFlood p R z j m l t → s + airtime p n < t
  slots_apart H S R y z f i j n m k l s t host first second less slot short began other flood later =
      let some = packets_last p b fits n in
      let more = packets_last p b fits m in
      let end = flood_end p n k s (tick_at_offset S y (starting_offset p i)) (omega arith) flood.few flood.near in
      let start = flood_end p m l t (tick_at_offset R z (starting_offset p j)) (omega arith) later.few later.near in
      omega (arith, relays_before_next_starts p b fits H S R y z f host first second i j n less slot short began other)
