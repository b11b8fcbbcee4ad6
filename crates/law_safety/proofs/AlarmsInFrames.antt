-- The alarm of a node that is on lies before the end of the frame that it counts.
use Rattle.std.proofs.Common.{ℕ, ◌+◌, ◌<◌, ◌≤◌, inl, inr, List, Bool, true, false, arith}
use Rattle.std.specs.Bool.{⊤}
use Rattle.std.specs.Prelude.{slice_index}
use Rattle.std.proofs.Math.Nat.{mul-le-mul_right}
use Rattle.tick_clock.specs.Clocks.{IsClock}
use Rattle.time_reference.specs.Budgets.{budget_of}
use Rattle.time_reference.specs.Zeros.{opening_offset, closing_offset, tick_at_offset}
use Rattle.time_reference.proofs.Points.{before_alarm, good_later}
use Rattle.time_reference.proofs.Run.{alarm_before_next}
use Rattle.node_core.specs.declared.stage.Stage.{Stage}
use Rattle.node_core.specs.declared.stage.Stage.TheVariants.{Idle, Scanning, AwaitFrame, AwaitSlot, InWindow}
use Rattle.node_core.specs.Windows.{Window}
use Rattle.node_core.specs.Nodes.{Node}
use Rattle.scenario_text.specs.ScenarioParts.{ScenarioParts}
use Rattle.air_log.specs.declared.entry.Entry.{Entry}
use Rattle.air_log.specs.Devices.{Device}
use Rattle.air_log.specs.Trails.{frame_start}
use Rattle.law_safety.specs.RoundZeros.{RefFor, GoodFor}
use Rattle.law_safety.specs.SetAlarms.{HasAlarm, AlarmFor, rank_at, tick_by}
use Rattle.law_safety.specs.TunedNodes.{HasTune, IsTunedAt, IsMember, Either, is_joining, is_last_window}
use Rattle.law_safety.specs.KnownPlans.{HasPlan, PlanAt, HasRound}
use Rattle.law_safety.specs.Invariant.{IsDrivenWell}
use Rattle.law_safety.proofs.RunFacts.{run_fits, host_clock}

module _ (s : ScenarioParts) (clocks : ℕ → ℕ → ℕ) (driven : IsDrivenWell s clocks) (air : List Entry) (v : ℕ) (drifts : IsClock (clocks v))
    (told : ℕ) (n : Node) (early : n.frame ≤ 4095) (tune : HasTune s clocks v n) where
  -- a point of the frame's round comes before the frame's end
  pub point_in_frame : (z q : ℕ) → GoodFor s clocks (rank_at n) v z n.frame q → q ≤ closing_offset s.profile (budget_of s.profile).last
      → tick_at_offset (clocks v) z q < frame_start s (n.frame + 1)
  point_in_frame z q good low =
      let fits = run_fits s driven.sound in
      let host = host_clock s clocks driven (rank_at n) tune.rank in
      let alarm =
      before_alarm s.profile (budget_of s.profile) fits (clocks (slice_index s.hosts (rank_at n))) (clocks v) (clocks v) z n.frame q
      host drifts drifts good low early in
      let next = alarm_before_next s.profile (budget_of s.profile) fits (clocks v) drifts n.frame early in
      omega (arith, alarm, next)

  pub slot_low : (j : ℕ) → j ≤ (budget_of s.profile).last
      → (opening_offset s.profile j ≤ closing_offset s.profile (budget_of s.profile).last)
      × (closing_offset s.profile j ≤ closing_offset s.profile (budget_of s.profile).last)
  slot_low j slot = let k = mul-le-mul_right s.profile.slot slot in (omega (arith, k), omega (arith, k))

  opens_in_frame : (j : ℕ) → j ≤ (budget_of s.profile).last → GoodFor s clocks (rank_at n) v n.zero n.frame (opening_offset s.profile j)
      → tick_by s clocks v n (opening_offset s.profile j) < frame_start s (n.frame + 1)
  opens_in_frame j slot good = point_in_frame n.zero (opening_offset s.profile j) good (slot_low j slot).0

  -- a window's slot is of the round, and its closing good
  pub closes_in_round : (j : ℕ) (w : Window) (b : Bool)
      → Either b (RefFor s clocks (rank_at n) v n.zero n.frame n.frame j) (IsMember s clocks v n j w.last (is_last_window j w))
      → Either b ⊤ (HasRound s clocks air v told n j w)
      → (j ≤ (budget_of s.profile).last) × GoodFor s clocks (rank_at n) v n.zero n.frame (closing_offset s.profile j)
  closes_in_round j w true ref plan = (ref.slot, record { c = n.frame; j = j; ref = ref; after = inr (omega arith) })
  closes_in_round j w false member round =
      let fits = run_fits s driven.sound in
      let short = round.round.fits.short in
      let last = round.last in
      let slot = member.slot in
      let host = clocks (slice_index s.hosts (rank_at n)) in (
        omega (arith, slot, last, short),
        good_later s.profile (budget_of s.profile) fits host (clocks v) n.zero n.frame (opening_offset s.profile j) (closing_offset s.profile j)
            (omega arith) member.good,
      )

  alarm_by : (alarm : ℕ) (st : Stage) → AlarmFor s clocks v n alarm st → IsTunedAt s clocks v n st
      → PlanAt s clocks air v told n st → alarm < frame_start s (n.frame + 1)
  alarm_by alarm Idle at tuned plan = absurd at
  alarm_by alarm Scanning at tuned plan =
      let next = alarm_before_next s.profile (budget_of s.profile) (run_fits s driven.sound) (clocks v) drifts n.frame early in
      omega (arith, at, next)
  alarm_by alarm AwaitFrame at tuned plan =
      let next = alarm_before_next s.profile (budget_of s.profile) (run_fits s driven.sound) (clocks v) drifts n.frame early in
      omega (arith, at, next)
  alarm_by alarm (AwaitSlot j) (inl at) tuned plan =
      let short = plan.fits.short in
      let slot = tuned.slot in
      let opens = opens_in_frame j (omega (arith, slot, short)) tuned.good in
      omega (arith, at, opens)
  alarm_by alarm (AwaitSlot j) (inr late) tuned plan =
      let short = plan.fits.short in
      let slot = tuned.slot in
      let behind = late.next in
      let closes = point_in_frame late.zero (closing_offset s.profile late.before) late.good (slot_low late.before (omega (arith, slot, short, behind))).1 in
      let at = late.at in
      omega (arith, at, closes)
  alarm_by alarm (InWindow j w) at tuned plan =
      let of = closes_in_round j w (is_joining n) tuned plan in
      let closes = point_in_frame n.zero (closing_offset s.profile j) of.1 (slot_low j of.0).1 in
      omega (arith, at, closes)

  -- the alarm that is set
  pub alarm_in_frame : (d : Device) (has : HasAlarm s clocks v n d) → HasPlan s clocks air v told n → has.alarm < frame_start s (n.frame + 1)
  alarm_in_frame d has plan = alarm_by has.alarm n.stage has.at tune.at plan.at
