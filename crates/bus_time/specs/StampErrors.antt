-- How far a stamp is from what the clock of the host reads.
use Rattle.std.specs.Prelude.{◌≡◌, ℕ, ◌+◌, ◌-◌, ◌*◌, ◌/◌, ◌==◌, List, Contains, true, false, Some, if◌then◌else◌}
use Rattle.std.specs.List.{AllZip}
use Rattle.lwb_base.specs.Profile.{Numbers, is_one}
use Rattle.tick_clock.specs.Clocks.{Near}
use Rattle.lwb_base.specs.Messages.{Schedule}
use Rattle.lwb_base.specs.declared.limits.TheConstants.{DRIFT_BOUND}
use Rattle.bus_rules.specs.Slots.{ScheduleOf}
use Rattle.lwb_member.specs.Said.{message_of}
use Rattle.radio_model.specs.declared.sending.Sending.{Sending}
use Rattle.radio_model.specs.Hearing.{counter_of_sending}
use Rattle.scenario_text.specs.ScenarioParts.{ScenarioParts}
use Rattle.air_log.specs.declared.entry.Entry.{Entry}
use Rattle.air_log.specs.Entries.{sendings_of}
use Rattle.air_log.specs.Lawful.{Lawful}
use Rattle.air_log.specs.Safe.{SameSlot, sender_hosts}
use Rattle.law_safety.specs.AgreeingNodes.{DifferByLess}
use Rattle.law_safety.specs.Invariant.{IsDrivenWell}
use Rattle.law_safety.specs.SentPlans.{IsHostOf}
use Rattle.bus_time.specs.Stamps.{IsReference, HasReference, stamped, tick_by}
use Rattle.bus_time.specs.StampLaws.{BeginsData}
use Rattle.bus_time.specs.declared.stamp.Stamp.{Stamp}

-- what a schedule of 61 bytes, or of 74, leaves open: in version 2 it names its contention slots
abbrev pub slack : Schedule → ℕ
slack y = if y.plan.contend == 0 then 51 else 58

-- the drift of two clocks in this many ticks, each by the drift bound
abbrev pub drifted : ℕ → ℕ
drifted d = 2 * DRIFT_BOUND * d / 1000000

-- o is the transmission that began the flood of h
pub record BeganFlood (s : ScenarioParts) (air : List Entry) (h o : Sending) : Type 0 where
  pub there : Contains (sendings_of air) o
  pub same : SameSlot s.profile h o
  pub first : counter_of_sending o ≡ 0

-- a stamp by a reference h errs by what its schedule leaves open, and by the drift since the start of the flood of h
abbrev pub StampsErrLittle : Type 0
StampsErrLittle =
    (s : ScenarioParts) (clocks : ℕ → ℕ → ℕ) (air : List Entry) → IsDrivenWell s clocks → Lawful s clocks air
    → (x : Sending) → BeginsData air x → (d : ℕ) (h : Sending) → IsReference s air x d h
    → (y : Schedule) → message_of h.packet ≡ Some (ScheduleOf y) → (o : Sending) → BeganFlood s air h o → (host : ℕ) → IsHostOf s x.rank host
    → Near (tick_by s air x clocks d h) (clocks host x.start) (slack y + drifted (x.start - o.start))

-- no stamp errs by this many ticks: 0.7 ms with frames of 4 s, and 0.92 ms with those of 5 s
abbrev pub never_reached : Numbers → ℕ
never_reached p = if is_one p then 44960 else 58300

-- a reference is of the frame itself or of one of the four before, so there is a bound for every age
abbrev pub StampsStayClose : Type 0
StampsStayClose =
    (s : ScenarioParts) (clocks : ℕ → ℕ → ℕ) (air : List Entry) → IsDrivenWell s clocks → Lawful s clocks air
    → (x : Sending) → BeginsData air x → (d : ℕ) (h : Sending) → IsReference s air x d h → (host : ℕ) → IsHostOf s x.rank host
    → DifferByLess (tick_by s air x clocks d h) (clocks host x.start) (never_reached s.profile)

module _ (s : ScenarioParts) (clocks : ℕ → ℕ → ℕ) (air : List Entry) (x : Sending) where
  -- the tick errs by what the schedule of its reference leaves open, and by the drift since the start of that flood
  pub record ErrsByAge (tick host : ℕ) : Type 0 where
    pub by : HasReference s air x clocks tick
    pub schedule : Schedule
    pub says : message_of by.heard.packet ≡ Some (ScheduleOf schedule)
    pub first : Sending
    pub began : BeganFlood s air by.heard first
    pub near : Near tick (clocks host x.start) (slack schedule + drifted (x.start - first.start))

  -- the stamp of x against what the clock of the host that the scenario names for the channel of x reads as x starts
  pub record ErrsLittle (stamp : Stamp) : Type 0 where
    pub host : ℕ
    pub named : IsHostOf s x.rank host
    pub hosting : sender_hosts s clocks air x ≡ true → stamp.tick ≡ clocks host x.start
    pub other : sender_hosts s clocks air x ≡ false → ErrsByAge stamp.tick host
    pub close : DifferByLess stamp.tick (clocks host x.start) (never_reached s.profile)

-- so errs the stamp of each
abbrev pub AllErrLittle : ScenarioParts → (ℕ → ℕ → ℕ) → List Entry → List Stamp → Type 0
AllErrLittle s clocks air stamps = AllZip (ErrsLittle s clocks air) (stamped s.profile air) stamps
