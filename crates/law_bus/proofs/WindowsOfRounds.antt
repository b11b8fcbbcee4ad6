-- How each window of a run came to open: at a member of a round whose plan had been sent, or at a scanning node that received a
-- schedule of a flood.
use Rattle.std.proofs.Common.{◌≡◌, ℕ, suc, ◌<◌, ◌≤◌, ◌⊎◌, List, Bool, true, false, Some, Option, Contains, refl, sym, ◌∙◌, ap, subst, arith}
use Rattle.std.specs.Prelude.{slice_index}
use Rattle.lwb_base.specs.Messages.{Schedule}
use Rattle.bus_rules.specs.Plans.{last_slot}
use Rattle.bus_rules.specs.Tuning.{hosts}
use Rattle.bus_rules.specs.Slots.{ScheduleOf, part_of}
use Rattle.lwb_member.specs.Said.{message_of}
use Rattle.node_core.specs.declared.stage.Stage.TheVariants.{Scanning, AwaitSlot}
use Rattle.node_core.specs.Windows.{Window}
use Rattle.node_core.specs.Nodes.{Node}
use Rattle.node_core.specs.Rows.{last_by}
use Rattle.scenario_text.specs.ScenarioParts.{ScenarioParts}
use Rattle.scenario_text.specs.FloodParts.{knows}
use Rattle.radio_model.specs.declared.sending.Sending.{Sending}
use Rattle.air_log.specs.declared.entry.Entry.{Entry}
use Rattle.air_log.specs.Entries.{HasHeardEntry}
use Rattle.air_log.specs.Devices.{Device, PowerOn}
use Rattle.air_log.specs.Lawful.{heard_by}
use Rattle.scenario_text.specs.Setups.{setup_of}
use Rattle.air_log.specs.Trails.{Reception, run_end}
use Rattle.air_log.specs.WindowLogs.{WindowLog, Happening, Closing}
use Rattle.law_trails.specs.Phases.{Hearings, Alarms, IsNextHearing}
use Rattle.law_trails.specs.TrailLinks.{device_in}
use Rattle.law_safety.specs.FloodSendings.{IsOfFlood}
use Rattle.law_safety.specs.Invariant.{IsObedientRun}
use Rattle.law_safety.specs.KnownInRows.{IsHeardNow}
use Rattle.law_safety.specs.KnownPlans.{InRound, PlanAt}
use Rattle.law_safety.specs.NodesInOrder.{IsOn}
use Rattle.law_safety.specs.Rows.{IsFine, AtTick}
use Rattle.law_safety.specs.SentPlans.{IsPlanned}
use Rattle.law_safety.specs.TunedNodes.{IsMember, IsTunedAt, Scans}
use Rattle.law_safety.proofs.InvariantHolds.{all_rows}
use Rattle.law_windows.specs.WindowSteps.{KeepsWindows, begun_log, joined_log}
use Rattle.law_windows.specs.WindowTimes.{IsOfSlot}
use Rattle.law_windows.proofs.TimedWindows.{frame, rank}
use Rattle.law_windows.proofs.WindowWalk.{on_in, windows_before}

module _ (s : ScenarioParts) (clocks : ℕ → ℕ → ℕ) (air : List Entry) (v : ℕ) where
  -- by its alarm. A host has not sent the plan before slot 0 is over
  pub record OfMember (told : ℕ) (w : WindowLog) : Type 0 where
    pub member : IsMember s clocks v w.before w.slot (last_slot w.before.core.plan) false
    pub planned : (hosts w.before.core.tune ≡ false) ⊎ (1 ≤ w.slot) → IsPlanned s air w.rank w.frame w.before.core.plan
    pub part : w.last.part ≡ part_of w.before.core.plan w.slot
    pub last : w.last.last ≡ last_slot w.before.core.plan
    pub opened : w.opened < told

  -- by a schedule
  pub record OfScanner (w : WindowLog) : Type 0 where
    pub scans : Scans s clocks v w.before w.before.core.tune
    pub heard : Sending
    pub there : HasHeardEntry air v heard
    pub of_slot : IsOfSlot s w heard
    pub of_flood : IsOfFlood s clocks air heard
    pub schedule : Schedule
    pub says : message_of heard.packet ≡ Some (ScheduleOf schedule)
    pub last : w.last.last ≡ last_by schedule w.slot

  abbrev pub OfRoundBy : Bool → ℕ → WindowLog → Type 0
  OfRoundBy true told w = OfMember told w
  OfRoundBy false told w = OfScanner w

  abbrev pub IsOfRound : ℕ → WindowLog → Type 0
  IsOfRound told w = OfRoundBy w.by_alarm told w

  -- nothing of it changes while it is open, or closes
  module _ (w : WindowLog) (happenings : List Happening) (last : Window) (closed : Option Closing) (told : ℕ)
      (same_part : last.part ≡ w.last.part) (same_last : last.last ≡ w.last.last) where
    abbrev later : WindowLog
    later = record w { happenings = happenings; last = last; closed = closed }

    still_by : (b : Bool) → OfRoundBy b told w → OfRoundBy b told later
    still_by true is = record {
      member = is.member;
      planned = is.planned;
      part = same_part ∙ is.part;
      last = same_last ∙ is.last;
      opened = is.opened;
    }
    still_by false is = record {
      scans = is.scans;
      heard = is.heard;
      there = is.there;
      of_slot = record { channel = is.of_slot.channel; frame = is.of_slot.frame; slot = is.of_slot.slot };
      of_flood = is.of_flood;
      schedule = is.schedule;
      says = is.says;
      last = same_last ∙ is.last;
    }

    still : IsOfRound told w → IsOfRound told later
    still is = still_by w.by_alarm is

  told_more : (told more : ℕ) → told ≤ more → (w : WindowLog) → (b : Bool) → OfRoundBy b told w → OfRoundBy b more w
  told_more told more order w true is = record {
    member = is.member;
    planned = is.planned;
    part = is.part;
    last = is.last;
    opened = (let before = is.opened in omega (arith, before, order));
  }
  told_more told more order w false is = is

  module _ (t : ℕ) (at : AtTick s clocks air v t) where
    opens : (d : Device) (n : Node) (j : ℕ) → IsFine s clocks air v t Alarms d → d.power ≡ PowerOn n → n.stage ≡ AwaitSlot j
        → OfMember (suc t) (begun_log (setup_of s v) t n j)
    opens d n j fine on stage =
        let is : IsOn s clocks air v t (suc t) d n = on_in s clocks air v t Alarms d n fine on in
        let round : InRound s clocks air v (suc t) n j n.core.plan = subst (PlanAt s clocks air v (suc t) n) stage is.plan.at in
        record {
          member = subst (IsTunedAt s clocks v n) stage is.tune.at;
          planned = λ known. (round.known known).planned;
          part = refl;
          last = refl;
          opened = omega arith;
        }

    joins : (d : Device) (h : Reception) (n : Node) (y : Schedule) → IsFine s clocks air v t Hearings d
        → IsNextHearing s v (clocks v) (heard_by air v) t h d → IsHeardNow s clocks air v t h d → d.power ≡ PowerOn n → n.stage ≡ Scanning
        → message_of h.packet ≡ Some (ScheduleOf y)
        → OfScanner (joined_log (setup_of s v) t (clocks v t) n h.packet y)
    joins d h n y fine next now on stage says =
        let is : IsOn s clocks air v t (suc t) d n = on_in s clocks air v t Hearings d n fine on in
        record {
          scans = subst (IsTunedAt s clocks v n) stage is.tune.at;
          heard = now.sending;
          there = now.there;
          of_slot = record {
            channel = rank s clocks air v t at d h n y fine next now on stage says;
            frame = now.frame ∙ sym (frame s clocks air v t at d h n y fine next now on stage says);
            slot = ap (λ (q : List ℕ). slice_index q 1) (sym now.packet);
          };
          of_flood = now.of_flood;
          schedule = y;
          says = ap message_of (sym now.packet) ∙ says;
          last = refl;
        }

    round_steps : KeepsWindows s clocks air v (λ now told w. IsOfRound told w) t
    round_steps = record {
      begun = λ d n j fine due on stage. opens d n j fine on stage;
      joined = λ d h n y fine next now on stage says rank. joins d h n y fine next now on stage says;
      heard = λ d h n j w x fine next now on stage is there known.
          still x _ _ x.closed t (ap (λ (u : Window). u.part) (sym is.last)) (ap (λ (u : Window). u.last) (sym is.last)) known;
      taken = λ d fine is before now x there. told_more t (suc t) (omega arith) x x.by_alarm (now.each x there);
      sent = λ d y n j w x fine enters own ends on stage waiting is there known.
          still x _ _ x.closed (suc t) (ap (λ (u : Window). u.part) (sym is.last)) (ap (λ (u : Window). u.last) (sym is.last)) known;
      closed = λ d n j w x fine due on stage is known. still x x.happenings x.last _ (suc t) refl refl known;
      passed = λ x known. known;
    }

  -- so each of them is
  pub of_round : IsObedientRun s clocks air → knows s.nodes v ≡ true → (w : WindowLog) → Contains (device_in s clocks air v (run_end s)).made.windows w
      → IsOfRound (run_end s) w
  of_round run known w there =
      (windows_before s clocks air v (λ now told w. IsOfRound told w) all_rows run known (λ u at. round_steps u at) (run_end s) (omega arith)).each w there
