-- What is known of a node where the alarm of a slot that it awaits is due, and the times of the window that opens then.
use Rattle.std.proofs.Common.{◌≡◌, ℕ, suc, ◌+◌, ◌*◌, ◌/◌, ◌<◌, ◌≤◌, ◌⊎◌, inl, inr, List, false, Some, length, max, sym, ◌∙◌, ap, subst, arith}
use Rattle.std.specs.Prelude.{slice_index}
use Rattle.lwb_base.specs.Profile.{Numbers, airtime}
use Rattle.tick_clock.specs.Clocks.{IsClock, due}
use Rattle.time_reference.specs.Budgets.{Fits, Budget, budget_of}
use Rattle.time_reference.specs.Zeros.{Good, opening_offset, starting_offset, closing_offset, tick_at_offset}
use Rattle.time_reference.proofs.Points.{good_later, after_start, opens_before_starts, closes_before_next_starts, closes_before_next_closes}
use Rattle.time_reference.proofs.Points.{closes_after_relays, opens_before_closes}
use Rattle.bus_rules.specs.Plans.{last_slot}
use Rattle.node_core.specs.declared.stage.Stage.TheVariants.{AwaitSlot}
use Rattle.node_core.specs.Nodes.{Node, starts_at, closes_at}
use Rattle.scenario_text.specs.ScenarioParts.{ScenarioParts}
use Rattle.radio_model.specs.declared.sending.Sending.{Sending}
use Rattle.radio_model.specs.Hearing.{slot_of_sending}
use Rattle.air_log.specs.declared.entry.Entry.{Entry}
use Rattle.air_log.specs.Devices.{Device}
use Rattle.air_log.specs.Trails.{frame_start}
use Rattle.law_trails.specs.NodeTimes.{AreSums}
use Rattle.law_trails.proofs.UnstoppedTimes.{slots_are_sums}
use Rattle.law_safety.specs.StillDevices.{IsStill}
use Rattle.law_safety.specs.CountedFrames.{IsOver, IsResting, BeganBy}
use Rattle.law_safety.specs.SetAlarms.{rank_at, tick_by, OpensLate, AlarmFor}
use Rattle.law_safety.specs.TunedNodes.{IsMember, IsTunedAt}
use Rattle.law_safety.specs.RadiosOn.{RadioFor}
use Rattle.law_safety.specs.BegunFloods.{HasBegun, BegunAt}
use Rattle.law_safety.specs.KnownPlans.{InRound, PlanAt}
use Rattle.law_safety.specs.NodesInOrder.{IsOn}
use Rattle.law_safety.specs.Rows.{AtTick}
use Rattle.law_safety.proofs.RunFacts.{run_fits, host_clock, frame_ends}

module _ (s : ScenarioParts) (clocks : ℕ → ℕ → ℕ) (air : List Entry) (v t : ℕ) where
  -- the clauses of a node that awaits slot j, whose alarm is due
  pub record Awaits (d : Device) (n : Node) (j : ℕ) : Type 0 where
    pub stage : n.stage ≡ AwaitSlot j
    pub frame : (n.frame ≡ t / s.profile.frame) ⊎ IsOver s clocks v t n
    pub began : (j ≡ 0) ⊎ (frame_start s n.frame < t)
    pub alarm : (t ≡ tick_by s clocks v n (opening_offset s.profile j)) ⊎ OpensLate s clocks v n j t
    pub rank : rank_at n < length s.hosts
    pub member : IsMember s clocks v n j (last_slot n.core.plan) false
    pub still : IsStill d
    pub below : (x : Sending) → HasBegun s n.frame d x → slot_of_sending x < j
    pub once : (f : ℕ) (x y : Sending) → HasBegun s f d x → HasBegun s f d y → slot_of_sending x ≡ slot_of_sending y → x ≡ y
    pub plan : InRound s clocks air v (suc t) n j n.core.plan

  pub awaits : (d : Device) (n : Node) (j : ℕ) → IsOn s clocks air v t (suc t) d n → n.stage ≡ AwaitSlot j → d.alarm ≡ Some t → Awaits d n j
  awaits d n j on stage set =
      let other : d.alarm ≡ Some on.alarm.alarm = on.alarm.set in
      let same : on.alarm.alarm ≡ t = cc in
      let radio = subst (RadioFor n d) stage on.radio.at in
      record {
        stage = stage;
        frame = on.frame.at;
        began = subst (BeganBy s t n) stage on.frame.began;
        alarm = subst (λ (a : ℕ). (a ≡ tick_by s clocks v n (opening_offset s.profile j)) ⊎ OpensLate s clocks v n j a) same
            (subst (AlarmFor s clocks v n on.alarm.alarm) stage on.alarm.at);
        rank = on.tune.rank;
        member = subst (IsTunedAt s clocks v n) stage on.tune.at;
        still = radio.1;
        below = subst (BegunAt s n d) stage on.begun.at;
        once = on.begun.once;
        plan = subst (PlanAt s clocks air v (suc t) n) stage on.plan.at;
      }

  module _ (at : AtTick s clocks air v t) (d : Device) (n : Node) (j : ℕ) (is : Awaits d n j) where
    abbrev p : Numbers
    p = s.profile

    abbrev b : Budget
    b = budget_of s.profile

    abbrev host : ℕ → ℕ
    host = clocks (slice_index s.hosts (rank_at n))

    abbrev own : ℕ → ℕ
    own = clocks v

    fits : Fits p b
    fits = run_fits s at.run.driven.sound

    host_drifts : IsClock host
    host_drifts = host_clock s clocks at.run.driven (rank_at n) is.rank

    own_drifts : IsClock own
    own_drifts = at.run.driven.drift v at.known

    pub slot_in_round : j ≤ b.last
    slot_in_round = let within = is.member.slot in let short = is.plan.fits.short in omega (arith, within, short)

    pub good_opening : Good p b host own n.zero n.frame (opening_offset p j)
    good_opening = is.member.good

    good_starting : Good p b host own n.zero n.frame (starting_offset p j)
    good_starting = good_later p b fits host own n.zero n.frame (opening_offset p j) (starting_offset p j) (omega arith) good_opening

    good_closing : Good p b host own n.zero n.frame (closing_offset p j)
    good_closing = good_later p b fits host own n.zero n.frame (opening_offset p j) (closing_offset p j) (omega arith) good_opening

    -- it opens before its start, and before it closes
    pub before_start : t < tick_by s clocks v n (starting_offset p j)
    before_start = elim is.alarm [
      | inl now ↦ (
          let starts =
          opens_before_starts p b fits host own own n.zero n.zero n.frame host_drifts own_drifts own_drifts j slot_in_round good_opening good_starting in
          omega (arith, now, starts)
          )
      | inr late ↦ (
          let less : late.before < j = (let next = late.next in omega (arith, next)) in
          let starts =
          closes_before_next_starts p b fits host own own late.zero n.zero n.frame host_drifts own_drifts own_drifts late.before j less slot_in_round
          late.good good_starting in
          let set = late.at in
          omega (arith, set, starts)
          )
    ]

    pub before_close : t < tick_by s clocks v n (closing_offset p j)
    before_close = elim is.alarm [
      | inl now ↦ (
          let closes = opens_before_closes p b fits host own n.zero n.frame j host_drifts own_drifts slot_in_round good_opening in
          omega (arith, now, closes)
          )
      | inr late ↦ (
          let i = late.before in
          let next : i + 1 ≡ j = (let is_next = late.next in omega (arith, is_next)) in
          let closes : tick_at_offset own late.zero (closing_offset p i) < tick_at_offset own n.zero (closing_offset p j) =
          subst (λ (k : ℕ). tick_at_offset own late.zero (closing_offset p i) < tick_at_offset own n.zero (closing_offset p k)) next
          (closes_before_next_closes p b fits host own own n.zero late.zero n.frame host_drifts own_drifts own_drifts i (omega (arith, next, slot_in_round))
          (subst (λ (k : ℕ). Good p b host own n.zero n.frame (closing_offset p k)) (sym next) good_closing) late.good) in
          let set = late.at in
          omega (arith, set, closes)
          )
    ]

    -- slot 0 opens in its frame
    first_in_frame : j ≡ 0 → frame_start s n.frame < t
    first_in_frame first =
        let nothing : 0 * p.slot ≡ 0 = omega arith in
        let none : opening_offset p j ≡ 0 = ap (λ (i : ℕ). i * p.slot) first ∙ nothing in
        let begins : frame_start s n.frame < tick_at_offset own n.zero 0 =
        after_start p b fits host own n.zero n.frame host_drifts own_drifts (subst (Good p b host own n.zero n.frame) none good_opening) in
        elim is.alarm [
          | inl now ↦ (let same : t ≡ tick_at_offset own n.zero 0 = now ∙ ap (tick_at_offset own n.zero) none in omega (arith, same, begins))
          | inr late ↦ (let next = late.next in absurd (omega (arith, first, next)))
        ]

    pub has_begun : frame_start s n.frame < t
    has_begun = elim is.began [ inl first ↦ first_in_frame first | inr past ↦ past ]

    pub frame_now : n.frame ≡ t / p.frame
    frame_now = elim is.frame [
      | inl now ↦ now
      | inr over ↦ (
          let first : j ≡ 0 = subst IsResting is.stage over.rests in
          let ends : t < frame_start s n.frame = subst (λ (f : ℕ). t < frame_start s f) (sym over.frame) (frame_ends s at.run.driven.sound t) in
          let begins = first_in_frame first in
          absurd (omega (arith, ends, begins))
          )
    ]

    -- the ticks for which a start and the closing are set
    sums : AreSums p n.zero j
    sums = slots_are_sums p b fits host own n.zero n.frame (opening_offset p j) j host_drifts own_drifts good_opening slot_in_round

    pub starts_then : max (due own (starts_at p n.zero j)) t ≡ tick_by s clocks v n (starting_offset p j)
    starts_then =
        let is_sum : due own (starts_at p n.zero j) ≡ tick_by s clocks v n (starting_offset p j) = ap (due own) sums.starts in
        let later = before_start in
        omega (arith, is_sum, later)

    pub closes_then : max (due own (closes_at p n.zero j)) t ≡ tick_by s clocks v n (closing_offset p j)
    closes_then =
        let is_sum : due own (closes_at p n.zero j) ≡ tick_by s clocks v n (closing_offset p j) = ap (due own) sums.closes in
        let later = before_close in
        omega (arith, is_sum, later)

    -- what starts then is over before the window closes
    pub over_before_close : (size : ℕ) → size ≤ b.packet
        → tick_by s clocks v n (starting_offset p j) + airtime p size < tick_by s clocks v n (closing_offset p j)
    over_before_close size short =
        let ends = closes_after_relays p b fits host own own n.zero n.zero n.frame host_drifts own_drifts own_drifts j size slot_in_round short
        good_starting good_closing in
        omega (arith, ends)
