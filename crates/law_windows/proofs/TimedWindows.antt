-- When each window opens and closes.
use Rattle.std.proofs.Common.{◌≡◌, ℕ, suc, ◌/◌, List, Bool, true, false, Some, Option, refl, sym, ◌∙◌, ap, subst, IfSome}
use Rattle.std.specs.Prelude.{slice_index}
use Rattle.lwb_base.specs.Messages.{Schedule}
use Rattle.time_reference.specs.Budgets.{budget_of}
use Rattle.time_reference.specs.Zeros.{closing_offset, tick_at_offset}
use Rattle.node_core.specs.declared.stage.Stage.TheVariants.{Scanning, AwaitSlot, InWindow}
use Rattle.node_core.specs.Windows.{Window}
use Rattle.node_core.specs.Nodes.{Node, zero_from}
use Rattle.bus_rules.specs.Slots.{ScheduleOf}
use Rattle.lwb_member.specs.Said.{message_of}
use Rattle.radio_model.specs.Hearing.{slot_of_sending}
use Rattle.scenario_text.specs.ScenarioParts.{ScenarioParts}
use Rattle.air_log.specs.declared.entry.Entry.{Entry}
use Rattle.air_log.specs.Devices.{Device, PowerOn, listens_to}
use Rattle.air_log.specs.Lawful.{heard_by}
use Rattle.air_log.specs.WindowLogs.{WindowLog, Happening, Closing}
use Rattle.scenario_text.specs.Setups.{setup_of}
use Rattle.air_log.specs.Trails.{Reception}
use Rattle.law_trails.specs.Phases.{Hearings, Alarms, IsNextHearing, IsNextAlarm}
use Rattle.law_trails.proofs.HeardReferences.{good_now}
use Rattle.law_safety.specs.RoundZeros.{RefFor, GoodFor}
use Rattle.law_safety.specs.SetAlarms.{AlarmFor, rank_at, tick_by}
use Rattle.law_safety.specs.StillDevices.{IsStill}
use Rattle.law_safety.specs.RadiosOn.{RadioFor}
use Rattle.law_safety.specs.NodesInOrder.{IsOn}
use Rattle.law_safety.specs.KnownInRows.{IsHeardNow}
use Rattle.law_safety.specs.Rows.{IsFine, AtTick}
use Rattle.law_safety.proofs.RunFacts.{run_fits}
use Rattle.law_safety.proofs.AwaitedSlots.{Awaits, awaits, before_close, frame_now as opens_in_frame, has_begun, slot_in_round as opens_in_round}
use Rattle.law_safety.proofs.HeardPlaces.{listened, frame_now, began_now}
use Rattle.law_safety.proofs.HeardRelays.{ends_before}
use Rattle.law_safety.proofs.HeardSchedules.{reference}
use Rattle.law_windows.specs.WindowTimes.{IsOfSlot, OpensInTime, IsInTime, ClosesInTime, closing_of}
use Rattle.law_windows.specs.OpenWindows.{IsOpenWindow}
use Rattle.law_windows.specs.WindowSteps.{KeepsWindows, begun_log, joined_log}
use Rattle.law_windows.proofs.OpenedByRows.{not_closed}
use Rattle.law_windows.proofs.WindowWalk.{on_in}

module _ (s : ScenarioParts) (clocks : ℕ → ℕ → ℕ) (air : List Entry) (v : ℕ) where
  pub record IsTimed (w : WindowLog) : Type 0 where
    pub opens : IsInTime s clocks air v w
    pub closes : IfSome w.closed (ClosesInTime s clocks air v w)

  module _ (w : WindowLog) (happenings : List Happening) (last : Window) (closed : Option Closing) where
    abbrev later : WindowLog
    later = record w { happenings = happenings; last = last; closed = closed }

    timed_by : (b : Bool) → OpensInTime s clocks air v b w → OpensInTime s clocks air v b later
    timed_by true is = record { good = is.good; zero = is.zero; at = is.at }
    timed_by false is = record {
      ref = is.ref;
      heard = is.heard;
      there = is.there;
      of_slot = record { channel = is.of_slot.channel; frame = is.of_slot.frame; slot = is.of_slot.slot };
      end = is.end;
    }

    timed_still : IsInTime s clocks air v w → IsInTime s clocks air v later
    timed_still is = record {
      hosted = is.hosted;
      in_round = is.in_round;
      began = is.began;
      frame = is.frame;
      by = timed_by w.by_alarm is.by;
      early = is.early;
    }

  -- the alarm that closes it
  closes_then : (t : ℕ) (n : Node) (j : ℕ) (w : Window) (x : WindowLog) → IsOpenWindow n j w x → t ≡ tick_by s clocks v n (closing_offset s.profile j)
      → t ≡ closing_of s clocks air v x
  closes_then t n j w x is at =
      at ∙ ap (λ (m : Node). tick_by s clocks v m (closing_offset s.profile j)) is.node
      ∙ ap (λ (i : ℕ). tick_at_offset (clocks v) x.after.zero (closing_offset s.profile i)) (sym is.slot)

  module _ (t : ℕ) (at : AtTick s clocks air v t) where
    opens_timed : (d : Device) (n : Node) (j : ℕ) → IsFine s clocks air v t Alarms d → IsNextAlarm s v (clocks v) (heard_by air v) t d
        → d.power ≡ PowerOn n → n.stage ≡ AwaitSlot j → IsTimed (begun_log (setup_of s v) t n j)
    opens_timed d n j fine due on stage =
        let is : Awaits s clocks air v t d n j = awaits s clocks air v t d n j (on_in s clocks air v t Alarms d n fine on) stage due.due in
        record {
          opens = record {
            hosted = is.rank;
            in_round = opens_in_round s clocks air v t at d n j is;
            began = has_begun s clocks air v t at d n j is;
            frame = sym (opens_in_frame s clocks air v t at d n j is);
            by = record { good = is.member.good; zero = refl; at = is.alarm };
            early = before_close s clocks air v t at d n j is;
          };
          closes = tt;
        }

    module _ (d : Device) (h : Reception) (n : Node) (y : Schedule) (fine : IsFine s clocks air v t Hearings d)
        (next : IsNextHearing s v (clocks v) (heard_by air v) t h d) (now : IsHeardNow s clocks air v t h d) (on : d.power ≡ PowerOn n)
        (stage : n.stage ≡ Scanning)
        (says : message_of h.packet ≡ Some (ScheduleOf y)) where
      is_on : IsOn s clocks air v t (suc t) d n
      is_on = on_in s clocks air v t Hearings d n fine on

      pub frame : n.frame ≡ t / s.profile.frame
      frame = frame_now s clocks air v t h d now n is_on

      radio : (listens_to (rank_at n) d.listening ≡ true) × IsStill d
      radio = subst (RadioFor n d) stage is_on.radio.at

      pub rank : now.sending.rank ≡ rank_at n
      rank = listened d.listening (rank_at n) now.sending.rank now.channel radio.0

      abbrev zero_now : ℕ
      zero_now = zero_from s.profile (clocks v t) h.packet

      abbrev slot : ℕ
      slot = slice_index h.packet 1

      ref : RefFor s clocks (rank_at n) v zero_now n.frame n.frame slot
      ref =
          subst (λ (r : ℕ). RefFor s clocks r v zero_now n.frame n.frame slot) rank
          (subst (λ (f : ℕ). RefFor s clocks now.sending.rank v zero_now f f slot) (sym frame)
          (reference s clocks air v t at h d now y next.there next.now says))

      good : GoodFor s clocks (rank_at n) v zero_now n.frame (closing_offset s.profile slot)
      good = good_now s.profile (budget_of s.profile) (run_fits s at.run.driven.sound) (clocks (slice_index s.hosts (rank_at n)))
          (clocks v) zero_now n.frame slot ref

      same_slot : slot_of_sending now.sending ≡ slot
      same_slot = ap (λ (q : List ℕ). slice_index q 1) (sym now.packet)

      of_slot : IsOfSlot s (joined_log (setup_of s v) t (clocks v t) n h.packet y) now.sending
      of_slot = record { channel = rank; frame = now.frame ∙ sym frame; slot = same_slot }

      joins_timed : IsTimed (joined_log (setup_of s v) t (clocks v t) n h.packet y)
      joins_timed =
          let m = (joined_log (setup_of s v) t (clocks v t) n h.packet y).after in
          record {
            opens = record {
              hosted = is_on.tune.rank;
              in_round = ref.slot;
              began = began_now s clocks air v t h d now n is_on;
              frame = sym frame;
              by = record { ref = ref; heard = now.sending; there = now.there; of_slot = of_slot; end = now.end };
              early = ends_before s clocks air v t at h d now m slot (record { frame = frame; rank = rank; slot = same_slot; good = good });
            };
            closes = tt;
          }

    closes_timed : (d : Device) (n : Node) (j : ℕ) (w : Window) (x : WindowLog) → IsFine s clocks air v t Alarms d
        → IsNextAlarm s v (clocks v) (heard_by air v) t d → d.power ≡ PowerOn n → n.stage ≡ InWindow j w → IsOpenWindow n j w x
        → t ≡ closing_of s clocks air v x
    closes_timed d n j w x fine due on stage is =
        let alarm = (on_in s clocks air v t Alarms d n fine on).alarm in
        let other : d.alarm ≡ Some alarm.alarm = alarm.set in
        let set : d.alarm ≡ Some t = due.due in
        let same : alarm.alarm ≡ t = cc in
        closes_then t n j w x is (sym same ∙ subst (AlarmFor s clocks v n alarm.alarm) stage alarm.at)

    pub times_steps : KeepsWindows s clocks air v (λ now taken w. IsTimed w) t
    times_steps = record {
      begun = opens_timed;
      joined = λ d h n y fine next now on stage says rank. joins_timed d h n y fine next now on stage says;
      heard = λ d h n j w x fine next now on stage is in_it known. record {
        opens = timed_still x _ _ x.closed known.opens;
        closes = not_closed s clocks v _ n j w x is;
      };
      taken = λ d fine is before now x there. now.each x there;
      passed = λ x known. known;
      sent = λ d y n j w x fine enters own ends on stage waiting is in_it known. record {
        opens = timed_still x _ _ x.closed known.opens;
        closes = not_closed s clocks v _ n j w x is;
      };
      closed = λ d n j w x fine due on stage is known. record {
        opens = timed_still x x.happenings x.last _ known.opens;
        closes = closes_timed d n j w x fine due on stage is;
      };
    }
