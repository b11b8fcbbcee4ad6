-- What is known of a node where the alarm of its open window is due: nothing is ordered or on the air, and its next alarm
-- comes in its frame.
use Rattle.std.proofs.Common.{◌≡◌, ℕ, suc, ◌+◌, ◌/◌, ◌<◌, ◌≤◌, ◌⊎◌, inl, inr, List, Some, None, Option, IfSome, max, refl, sym, ◌∙◌, ap, subst, arith}
use Rattle.std.specs.Prelude.{⊤, slice_index}
use Rattle.std.proofs.lemmas.Bool.{cases_lt}
use Rattle.lwb_base.specs.Profile.{Numbers}
use Rattle.tick_clock.specs.Clocks.{IsClock, due}
use Rattle.time_reference.specs.Budgets.{Fits, Budget, budget_of}
use Rattle.time_reference.specs.Zeros.{opening_offset, closing_offset, tick_at_offset}
use Rattle.time_reference.proofs.BudgetRoom.{window_order}
use Rattle.time_reference.proofs.Points.{before_alarm, good_later}
use Rattle.node_core.specs.declared.stage.Stage.TheVariants.{InWindow}
use Rattle.node_core.specs.Windows.{Window}
use Rattle.node_core.specs.Nodes.{Node, frame_alarm, opens_at}
use Rattle.scenario_text.specs.ScenarioParts.{ScenarioParts}
use Rattle.radio_model.specs.declared.sending.Sending.{Sending}
use Rattle.air_log.specs.declared.entry.Entry.{Entry}
use Rattle.air_log.specs.Devices.{Device, OrderedPacket}
use Rattle.air_log.specs.Trails.{frame_start}
use Rattle.law_trails.specs.Phases.{Alarms, NothingDue}
use Rattle.law_trails.proofs.UnstoppedTimes.{alarm_sum, slots_are_sums}
use Rattle.law_safety.specs.StillDevices.{IsStill}
use Rattle.law_safety.specs.CountedFrames.{IsResting, BeganBy, frame_alarm_at}
use Rattle.law_safety.specs.RoundZeros.{RefFor, GoodFor}
use Rattle.law_safety.specs.SetAlarms.{rank_at, tick_by, AlarmFor}
use Rattle.law_safety.specs.TunedNodes.{Either, is_joining, is_last_window, IsMember, IsTunedAt, HasTune}
use Rattle.law_safety.specs.OpenFloods.{HasFlood}
use Rattle.law_safety.specs.OrderedSendings.{HasOrder, HasSending}
use Rattle.law_safety.specs.BegunFloods.{BegunInWindow, BegunAt, BeganOnce}
use Rattle.law_safety.specs.KnownPlans.{HasRound, PlanAt}
use Rattle.law_safety.specs.AcceptedPackets.{HasAccepted}
use Rattle.law_safety.specs.NodesInOrder.{IsOn, InOpenWindow, WindowAt}
use Rattle.law_safety.specs.Rows.{AtTick}
use Rattle.law_safety.proofs.AlarmsInFrames.{closes_in_round, slot_low}
use Rattle.law_safety.proofs.RunFacts.{run_fits, host_clock, frame_in_run}

module _ (s : ScenarioParts) (clocks : ℕ → ℕ → ℕ) (air : List Entry) (v t : ℕ) where
  -- the clauses of a node whose window of slot j closes now
  pub record Closes (d : Device) (n : Node) (j : ℕ) (w : Window) : Type 0 where
    pub frame : n.frame ≡ t / s.profile.frame
    pub began : frame_start s n.frame < t
    pub alarm : t ≡ tick_by s clocks v n (closing_offset s.profile j)
    pub tune : HasTune s clocks v n
    pub tuned : Either (is_joining n) (RefFor s clocks (rank_at n) v n.zero n.frame n.frame j) (IsMember s clocks v n j w.last (is_last_window j w))
    pub plan : Either (is_joining n) ⊤ (HasRound s clocks air v (suc t) n j w)
    pub still : IsStill d
    pub begun : BegunInWindow s n d j w
    pub once : BeganOnce s d
    pub flood : HasFlood s n d j w
    pub accepted : HasAccepted s clocks air v (suc t) n j w

  module _ (n : Node) (j : ℕ) (w : Window) (alarm : t ≡ tick_by s clocks v n (closing_offset s.profile j)) where
    none_ordered : (o : Option OrderedPacket) → IfSome o (HasOrder s clocks air v (suc t) n j w) → IfSome o (λ (o : OrderedPacket). t ≤ o.tick) → o ≡ None
    none_ordered None has from = refl
    none_ordered (Some o) has from = let over = has.over in absurd (omega (arith, over, from, alarm))

    none_sent : (o : Option Sending) → IfSome o (HasSending s clocks air v n j) → IfSome o (λ (x : Sending). suc t ≤ x.end) → o ≡ None
    none_sent None has from = refl
    none_sent (Some x) has from = let over = has.over in absurd (omega (arith, over, from, alarm))

  pub closes : (d : Device) (n : Node) (j : ℕ) (w : Window) → IsOn s clocks air v t (suc t) d n → n.stage ≡ InWindow j w → d.alarm ≡ Some t
      → NothingDue t Alarms d → Closes d n j w
  closes d n j w on stage set known =
      let other : d.alarm ≡ Some on.alarm.alarm = on.alarm.set in
      let same : on.alarm.alarm ≡ t = cc in
      let alarm : t ≡ tick_by s clocks v n (closing_offset s.profile j) = sym same ∙ subst (AlarmFor s clocks v n on.alarm.alarm) stage on.alarm.at in
      let in_window : InOpenWindow s clocks air v (suc t) n d j w = subst (WindowAt s clocks air v (suc t) n d) stage on.window in
      record {
        frame = elim on.frame.at [ inl now ↦ now | inr over ↦ absurd (subst IsResting stage over.rests) ];
        began = subst (BeganBy s t n) stage on.frame.began;
        alarm = alarm;
        tune = on.tune;
        tuned = subst (IsTunedAt s clocks v n) stage on.tune.at;
        plan = subst (PlanAt s clocks air v (suc t) n) stage on.plan.at;
        still = record {
          ordered = none_ordered n j w alarm d.ordered in_window.order known.ordered;
          sending = none_sent n j w alarm d.sending in_window.sending known.sending;
        };
        begun = subst (BegunAt s n d) stage on.begun.at;
        once = on.begun.once;
        flood = in_window.flood;
        accepted = in_window.accepted;
      }

  module _ (at : AtTick s clocks air v t) (d : Device) (n : Node) (j : ℕ) (w : Window) (is : Closes d n j w) where
    abbrev p : Numbers
    p = s.profile

    abbrev b : Budget
    b = budget_of s.profile

    abbrev pub host : ℕ → ℕ
    host = clocks (slice_index s.hosts (rank_at n))

    abbrev own : ℕ → ℕ
    own = clocks v

    pub fits : Fits s.profile (budget_of s.profile)
    fits = run_fits s at.run.driven.sound

    pub host_drifts : IsClock host
    host_drifts = host_clock s clocks at.run.driven (rank_at n) is.tune.rank

    pub own_drifts : IsClock (clocks v)
    own_drifts = at.run.driven.drift v at.known

    pub early : n.frame ≤ 4095
    early = subst (λ (f : ℕ). f ≤ 4095) (sym is.frame) (frame_in_run s at.run.driven.sound t at.in_run)

    in_round : (j ≤ b.last) × GoodFor s clocks (rank_at n) v n.zero n.frame (closing_offset p j)
    in_round = closes_in_round s clocks at.run.driven air v own_drifts (suc t) n early is.tune j w (is_joining n) is.tuned is.plan

    pub slot_in_round : j ≤ (budget_of s.profile).last
    slot_in_round = in_round.0

    pub good_closing : GoodFor s clocks (rank_at n) v n.zero n.frame (closing_offset s.profile j)
    good_closing = in_round.1

    -- the alarm of the frame is still to come
    pub frame_alarm_then : max (due (clocks v) (frame_alarm s.profile n.frame)) t ≡ frame_alarm_at s clocks v n.frame
    frame_alarm_then =
        let few = early in
        let low = (slot_low s clocks at.run.driven air v own_drifts (suc t) n early is.tune j slot_in_round).1 in
        let before = before_alarm p b fits host own own n.zero n.frame (closing_offset p j) host_drifts own_drifts own_drifts good_closing low early in
        let sum : due own (frame_alarm p n.frame) ≡ frame_alarm_at s clocks v n.frame = ap (due own) (alarm_sum p b fits n.frame (omega (arith, few))) in
        let now = is.alarm in
        omega (arith, sum, before, now)

    -- what is good from the closing on is so from the next opening on
    pub good_next : (z : ℕ) → GoodFor s clocks (rank_at n) v z n.frame (closing_offset s.profile j)
        → GoodFor s clocks (rank_at n) v z n.frame (opening_offset s.profile (j + 1))
    good_next z good =
        let order = window_order p b fits in
        good_later p b fits host own z n.frame (closing_offset p j) (opening_offset p (j + 1)) (omega arith) good

    -- the next window opens at its time by the zero that is used from now on, or at once if that has passed
    pub opens_then : (z : ℕ) → GoodFor s clocks (rank_at n) v z n.frame (closing_offset s.profile j) → j + 1 ≤ (budget_of s.profile).last
        → let alarm = max (due (clocks v) (opens_at s.profile z (j + 1))) t in
        let opens = tick_at_offset (clocks v) z (opening_offset s.profile (j + 1)) in
        (alarm ≡ opens) ⊎ ((alarm ≡ t) × (opens ≤ t))
    opens_then z good within =
        let sums = slots_are_sums p b fits host own z n.frame (opening_offset p (j + 1)) (j + 1) host_drifts own_drifts (good_next z good) within in
        let sum : due own (opens_at p z (j + 1)) ≡ tick_at_offset own z (opening_offset p (j + 1)) = ap (due own) sums.opens in
        elim (cases_lt t (tick_at_offset own z (opening_offset p (j + 1)))) [
          | inl later ↦ inl (omega (arith, sum, later))
          | inr past ↦ inr (omega (arith, sum, past), omega (arith, past))
        ]
