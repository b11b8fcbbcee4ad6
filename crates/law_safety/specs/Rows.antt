-- What each step of a tick has to keep, a statement for each: with all of them the invariant goes on from tick to tick.
use Rattle.std.specs.Prelude.{◌≡◌, ℕ, suc, ◌<◌, ◌≤◌, List, true, Contains}
use Rattle.scenario_text.specs.ScenarioParts.{ScenarioParts}
use Rattle.scenario_text.specs.FloodParts.{knows}
use Rattle.radio_model.specs.declared.sending.Sending.{Sending}
use Rattle.air_log.specs.declared.entry.Entry.{Entry}
use Rattle.air_log.specs.Lawful.{heard_by}
use Rattle.air_log.specs.Trails.{Reception, run_end}
use Rattle.air_log.specs.Devices.{Device}
use Rattle.law_trails.specs.Phases.{Phase, Lines, Hearings, End, Alarms, Start, Over, starts_from}
use Rattle.law_trails.specs.Walks.{BootKept, OffKept, StreamKept, JoiningKept, HearingKept, SentKept, LateSentKept}
use Rattle.law_trails.specs.Walks.{SentElsewhereKept, FrameAlarmKept, OpeningKept, ClosingKept, AlarmElsewhereKept, BeginningKept, MissedStartKept, OnwardsKept}
use Rattle.law_trails.specs.Walks.{PassingKept}
use Rattle.law_safety.specs.SentPlans.{IsHostOf}
use Rattle.law_safety.specs.FloodSendings.{IsOfFlood}
use Rattle.law_safety.specs.NodesInOrder.{IsInOrder}
use Rattle.law_safety.specs.QuietHosts.{HostsInOrder}
use Rattle.law_safety.specs.Invariant.{Invariant, IsObedientRun}

-- up to which tick the script has been given in a phase of tick t
abbrev pub told_in : ℕ → Phase → ℕ
told_in t Lines = t
told_in t Hearings = suc t
told_in t End = suc t
told_in t Alarms = suc t
told_in t Start = suc t
told_in t Over = suc t

module _ (s : ScenarioParts) (clocks : ℕ → ℕ → ℕ) (air : List Entry) (v : ℕ) where
  -- what is known of the device of v in a phase of tick t, with what it has sent so far
  pub record IsFine (t : ℕ) (phase : Phase) (d : Device) : Type 0 where
    pub node : IsInOrder s clocks air v t (told_in t phase) d
    pub host : (rank : ℕ) → IsHostOf s rank v → HostsInOrder s rank t (told_in t phase) d
    pub sent : (x : Sending) → Contains d.made.sent x → IsOfFlood s clocks air x
    pub before : (x : Sending) → Contains d.made.sent x → x.start < starts_from t phase

  -- what each row may use: the run, and the invariant of all nodes before the tick
  pub record AtTick (t : ℕ) : Type 0 where
    pub run : IsObedientRun s clocks air
    pub known : knows s.nodes v ≡ true
    pub in_run : t < run_end s
    pub before : Invariant s clocks air t

-- a property of a step of node v in tick t, where the invariant holds before the tick
abbrev pub Row : ((ℕ → Phase → Device → Type 0) → ScenarioParts → ℕ → (ℕ → ℕ) → List Reception → ℕ → Type 0) → Type 0
Row Kept =
    (s : ScenarioParts) (clocks : ℕ → ℕ → ℕ) (air : List Entry) (v t : ℕ) → AtTick s clocks air v t
    → Kept (IsFine s clocks air v) s v (clocks v) (heard_by air v) t

-- the script
abbrev pub BootRow : Type 0
BootRow = Row BootKept

abbrev pub OffRow : Type 0
OffRow = Row OffKept

abbrev pub StreamRow : Type 0
StreamRow = Row StreamKept

-- receptions
abbrev pub JoiningRow : Type 0
JoiningRow = Row JoiningKept

abbrev pub HearingRow : Type 0
HearingRow = Row HearingKept

-- the end of the own transmission
abbrev pub SentRow : Type 0
SentRow = Row SentKept

abbrev pub LateSentRow : Type 0
LateSentRow = Row LateSentKept

abbrev pub SentElsewhereRow : Type 0
SentElsewhereRow = Row SentElsewhereKept

-- alarms
abbrev pub FrameAlarmRow : Type 0
FrameAlarmRow = Row FrameAlarmKept

abbrev pub OpeningRow : Type 0
OpeningRow = Row OpeningKept

abbrev pub ClosingRow : Type 0
ClosingRow = Row ClosingKept

abbrev pub AlarmElsewhereRow : Type 0
AlarmElsewhereRow = Row AlarmElsewhereKept

-- the start of the ordered transmission
abbrev pub BeginningRow : Type 0
BeginningRow = Row BeginningKept

abbrev pub MissedStartRow : Type 0
MissedStartRow = Row MissedStartKept

-- from phase to phase, and to the next tick
abbrev pub OnwardsRow : Type 0
OnwardsRow = Row OnwardsKept

abbrev pub PassingRow : Type 0
PassingRow = Row PassingKept

pub record AllRows : Type 0 where
  pub boot : BootRow
  pub off : OffRow
  pub streaming : StreamRow
  pub joining : JoiningRow
  pub hearing : HearingRow
  pub sent : SentRow
  pub late_sent : LateSentRow
  pub sent_elsewhere : SentElsewhereRow
  pub frame_alarm : FrameAlarmRow
  pub opening : OpeningRow
  pub closing : ClosingRow
  pub alarm_elsewhere : AlarmElsewhereRow
  pub beginning : BeginningRow
  pub missed_start : MissedStartRow
  pub onwards : OnwardsRow
  pub passing : PassingRow

-- the rows suffice: the invariant holds before the first tick, and with it before each tick of a run
abbrev pub RowsSuffice : Type 0
RowsSuffice = AllRows → (s : ScenarioParts) (clocks : ℕ → ℕ → ℕ) (air : List Entry) → IsObedientRun s clocks air
    → (t : ℕ) → t ≤ run_end s → Invariant s clocks air t
