-- What a valid run gives: the invariant at its end, the course of each node with a window, and the window in which the
-- flood of a received schedule began.
use Rattle.std.proofs.Common.{◌≡◌, ℕ, ◌+◌, ◌<◌, ◌≤◌, List, Bool, true, false, if◌then◌else◌, Some, inl, inr, Contains, fold, length, refl, sym, ◌∙◌, ap, subst}
use Rattle.std.proofs.Common.{arith}
use Rattle.std.specs.Prelude.{slice_index}
use Rattle.std.proofs.lemmas.List.{length-set}
use Rattle.lwb_base.specs.Messages.{Schedule}
use Rattle.glossy_relay.specs.Relaying.{reply_to, fits, relay_of, counter_of}
use Rattle.glossy_relay.specs.declared.flood.Reply.TheVariants.{Relay, Keep, Ignore}
use Rattle.glossy_relay.specs.FloodState.{FloodState}
use Rattle.glossy_relay.proofs.CountedPackets.{counter_set}
use Rattle.bus_rules.specs.Slots.{ScheduleOf}
use Rattle.lwb_member.specs.Said.{message_of}
use Rattle.scenario_text.specs.ScenarioParts.{ScenarioParts}
use Rattle.scenario_text.specs.FloodParts.{knows}
use Rattle.radio_model.specs.declared.sending.Sending.{Sending}
use Rattle.radio_model.specs.Hearing.{frame_of_sending, slot_of_sending}
use Rattle.node_core.specs.Nodes.{Node}
use Rattle.air_log.specs.declared.entry.Entry.{Entry}
use Rattle.air_log.specs.Devices.{Power, PowerOff, PowerOn}
use Rattle.air_log.specs.Lawful.{trail_in}
use Rattle.air_log.specs.Safe.{sender_hosts}
use Rattle.scenario_text.specs.Setups.{setup_of}
use Rattle.air_log.specs.Trails.{run_end}
use Rattle.air_log.specs.WindowLogs.{WindowLog}
use Rattle.law_trails.specs.TrailLinks.{device_in}
use Rattle.law_trails.proofs.OtherCounters.{bodies_same}
use Rattle.law_trails.proofs.SentInTrails.{sent_known}
use Rattle.law_safety.specs.Beginnings.{MaySay, SaysSchedule}
use Rattle.law_safety.specs.FloodSendings.{IsOfFlood}
use Rattle.law_safety.specs.Invariant.{IsObedientRun}
use Rattle.law_safety.specs.SentPlans.{IsPlanned}
use Rattle.law_safety.proofs.InvariantHolds.{ends_in_order}
use Rattle.law_safety.specs.Endings.{EndsInOrder}
use Rattle.law_safety.proofs.RunSendings.{in_trail, of_flood}
use Rattle.law_windows.specs.WindowCalls.{CallsFor, IsCalled}
use Rattle.law_windows.specs.WindowFloods.{after_happening, flood_at_first}
use Rattle.law_windows.proofs.WindowFacts.{sends_as_called}
use Rattle.law_windows.proofs.Courses.{run_of, through_frames}
use Rattle.law_windows.proofs.Strangers.{strangers}
use Rattle.law_terms.specs.LawfulRuns.{IsLawfulRun}
use Rattle.law_terms.specs.FrameCourses.{GoesThrough, IsCourse, IsWindowIn, power_at}
use Rattle.law_terms.specs.SlotLaws.{IsWindowOf}
use Rattle.law_bus.proofs.WindowsOfRounds.{OfScanner, IsOfRound, of_round}

-- a relay has a counter
relay_is : (b c : Bool) (p q : List ℕ) → (if b then (if c then Relay p else Keep) else Ignore) ≡ Relay q → q ≡ p
relay_is true true p q is = cc
relay_is true false p q is = absurd (kept is)
  where
    kept : Keep ≡ Relay q → ⊥
    kept is = cc
relay_is false c p q is = absurd (ignored is)
  where
    ignored : Ignore ≡ Relay q → ⊥
    ignored is = cc

not_first : (f : FloodState) (p q : List ℕ) → reply_to f p ≡ Relay q → 7 ≤ length q → slice_index q 2 ≡ 0 → ⊥
not_first f p q is long first =
    let same : q ≡ relay_of p = relay_is (fits f p) _ (relay_of p) q is in
    let size : length q ≡ length p = ap length same ∙ length-set p 2 (counter_of p + 1) in
    let count = counter_set p (counter_of p + 1) (omega (arith, long, size)) in
    let zero_count : slice_index (relay_of p) 2 ≡ 0 = ap (λ (x : List ℕ). slice_index x 2) (sym same) ∙ first in
    omega (arith, count, zero_count)

module _ (s : ScenarioParts) (clocks : ℕ → ℕ → ℕ) (air : List Entry) (lawful : IsLawfulRun s clocks air) where
  pub run : IsObedientRun s clocks air
  run = run_of s clocks air lawful

  pub whole : EndsInOrder s clocks air
  whole = ends_in_order s clocks air run

  pub known_by : (v : ℕ) (w : WindowLog) → Contains (trail_in s clocks air v).made.windows w → knows s.nodes v ≡ true
  known_by v w there = by_name (knows s.nodes v) refl
    where
      by_name : (b : Bool) → knows s.nodes v ≡ b → knows s.nodes v ≡ true
      by_name true is = is
      by_name false is = absurd (strangers s clocks air lawful v is w there)

  pub round_by : (v : ℕ) (w : WindowLog) → Contains (trail_in s clocks air v).made.windows w → IsOfRound s clocks air v (run_end s) w
  round_by v w there = of_round s clocks air v run (known_by v w there) w there

  module _ (rank f j : ℕ) where
    -- the window of a host in which it began the flood of this schedule
    pub record HasOrigin (y : Schedule) : Type 0 where
      pub host : ℕ
      pub zero : ℕ
      pub sending : Sending
      pub window : WindowLog
      pub here : IsWindowOf s clocks air rank f j host window
      pub by_alarm : window.by_alarm ≡ true
      pub says : SaysSchedule s clocks air host rank f zero j y
      pub planned : y.gap ≡ 0 → IsPlanned s air rank f y.plan

  module _ (v : ℕ) (w : WindowLog) (is : OfScanner s clocks air v w) where
    abbrev flood : IsOfFlood s clocks air is.heard
    flood = is.of_flood

    abbrev o : Sending
    o = flood.origin

    frame : frame_of_sending s.profile o ≡ w.frame
    frame = sym flood.slot.frame ∙ is.of_slot.frame

    channel : o.rank ≡ w.rank
    channel = sym flood.slot.channel ∙ is.of_slot.channel

    slot : slot_of_sending o ≡ w.slot
    slot = sym flood.slot.slot ∙ is.of_slot.slot

    message : message_of o.packet ≡ Some (ScheduleOf is.schedule)
    message =
        let first = flood.begins.start.first in
        sym (bodies_same is.heard.packet o.packet flood.few (omega (arith, first)) flood.same) ∙ is.says

    says_there : SaysSchedule s clocks air o.node o.rank (frame_of_sending s.profile o) flood.zero (slot_of_sending o) is.schedule
    says_there = subst (MaySay s clocks air o.node o.rank (frame_of_sending s.profile o) flood.zero (slot_of_sending o)
        (sender_hosts s clocks air o)) message flood.begins.start.says

    says_here : SaysSchedule s clocks air o.node w.rank w.frame flood.zero w.slot is.schedule
    says_here =
        subst (λ (j : ℕ). SaysSchedule s clocks air o.node w.rank w.frame flood.zero j is.schedule) slot
        (subst (λ (f : ℕ). SaysSchedule s clocks air o.node w.rank f flood.zero (slot_of_sending o) is.schedule) frame
        (subst (λ (r : ℕ). SaysSchedule s clocks air o.node r (frame_of_sending s.profile o) flood.zero (slot_of_sending o) is.schedule) channel says_there))

    called : IsCalled s clocks o.node (device_in s clocks air o.node (run_end s)).made.windows o
    called =
        let calls = sends_as_called s clocks air run o.node
        (sent_known s clocks air run.heedful.trails o flood.begins.sent) (run_end s) (omega arith) in
        calls.called o (in_trail s clocks air whole o flood.begins.sent)

    begun : (c : CallsFor s clocks o.node called.window o.start o.packet) → called.window.by_alarm ≡ true
    begun (inl begins) = begins.by_alarm
    begun (inr relays) =
        let before : FloodState = fold after_happening (flood_at_first (setup_of s o.node) called.window.by_alarm called.window) relays.earlier in
        absurd (not_first before relays.heard o.packet relays.answer (of_flood s clocks air whole o flood.begins.sent).some
        flood.begins.start.first)

    pub origin_of : HasOrigin w.rank w.frame w.slot is.schedule
    origin_of = record {
      host = o.node;
      zero = flood.zero;
      sending = o;
      window = called.window;
      here = record {
        there = called.there;
        frame = sym called.of_slot.frame ∙ frame;
        channel = sym called.of_slot.channel ∙ channel;
        slot = sym called.of_slot.slot ∙ slot;
      };
      by_alarm = begun called.call;
      says = says_here;
      planned = λ now. record {
        sending = o;
        gap = 0;
        schedule = record {
          sent = flood.begins.sent;
          channel = channel;
          first = flood.begins.start.first;
          says = message ∙ ap (λ (g : ℕ). Some (ScheduleOf (record { plan = is.schedule.plan; gap = g }))) now;
          rank_said = says_here.fits.of_rank;
        };
        due = frame_only;
      };
    }
      where
        frame_only : frame_of_sending s.profile o + 0 ≡ w.frame
        frame_only = (let same = frame in omega (arith, same))

  -- a node that has a window in a frame is on at its start, and goes through it
  pub record HasCourse (v f : ℕ) : Type 0 where
    pub node : Node
    pub on : power_at s clocks air v f ≡ PowerOn node
    pub course : IsCourse s clocks air v f node

  pub course_on : (v f : ℕ) (n : Node) → knows s.nodes v ≡ true → f < s.frames → power_at s clocks air v f ≡ PowerOn n → IsCourse s clocks air v f n
  course_on v f n known in_run on = subst (GoesThrough s clocks air v f) on (through_frames s clocks air lawful v f known in_run)

  by_power : (v f : ℕ) (w : WindowLog) → IsWindowIn s clocks air v f w → (p : Power)
      → power_at s clocks air v f ≡ p → GoesThrough s clocks air v f p → HasCourse v f
  by_power v f w here (PowerOff boots) is goes = absurd (goes.none_ w here)
  by_power v f w here (PowerOn n) is goes = record { node = n; on = is; course = goes }

  pub course_of : (v f : ℕ) (w : WindowLog) → f < s.frames → IsWindowIn s clocks air v f w → HasCourse v f
  course_of v f w in_run here =
      by_power v f w here (power_at s clocks air v f) refl (through_frames s clocks air lawful v f (known_by v w here.there) in_run)
