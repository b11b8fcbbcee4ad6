-- What is kept by each step of a trail holds all along it.
use Rattle.std.specs.Prelude.{◌≡◌, ⊤, ◌⊎◌, ℕ, suc, ◌<◌, ◌≤◌, List, [], ◌∷◌, ◌++◌, true, false, Some, None, is_some, fold}
use Rattle.std.specs.declared.option.Option.{Option}
use Rattle.lwb_base.specs.Messages.{Schedule}
use Rattle.lwb_base.specs.declared.event.Event.{Event}
use Rattle.lwb_base.specs.declared.event.Event.TheVariants.{Alarm, Heard, Sent}
use Rattle.tick_clock.specs.Clocks.{IsClock}
use Rattle.radio_model.specs.declared.sending.Sending.{Sending}
use Rattle.scenario_text.specs.ScenarioParts.{ScenarioParts}
use Rattle.scenario_text.specs.ScenarioFacts.{IsSoundScenario}
use Rattle.scenario_text.specs.FloodParts.{knows}
use Rattle.bus_rules.specs.declared.act.Act.TheVariants.{On, Off}
use Rattle.scenario_text.specs.declared.script.ScriptLine.{ScriptLine}
use Rattle.bus_rules.specs.Tuning.{rank_of}
use Rattle.bus_rules.specs.Cores.{Setup}
use Rattle.bus_rules.specs.Slots.{ScheduleOf}
use Rattle.bus_rules.specs.States.{switch_of, core_after_act}
use Rattle.lwb_member.specs.Said.{message_of}
use Rattle.node_core.specs.declared.stage.Stage.{Stage}
use Rattle.node_core.specs.declared.stage.Stage.TheVariants.{Idle, Scanning, AwaitFrame, AwaitSlot, InWindow}
use Rattle.node_core.specs.Windows.{Window}
use Rattle.node_core.specs.Nodes.{Node}
use Rattle.node_core.specs.Rows.{Stepped, frame_alarms, window_opens, window_closes, window_hears, joins, sends}
use Rattle.air_log.specs.Devices.{Device, Power, PowerOff, PowerOn, Listening, OrderedPacket, at_rest, obeyed, moved}
use Rattle.air_log.specs.ScriptedDevices.{device_after_on, device_after_off, with_new_core}
use Rattle.scenario_text.specs.Setups.{setup_of}
use Rattle.air_log.specs.Trails.{Reception, run_end, sending_from, before_tick}
use Rattle.law_trails.specs.Phases.{Phase, Lines, Hearings, End, Alarms, Start, Over, next_phase, device_at, NothingDue, IsNextLineOf, IsNextHearing}
use Rattle.law_trails.specs.Phases.{IsNextAlarm}

-- the device after this row of the node table, with its orders
abbrev pub device_after_row : (ℕ → ℕ) → Setup → ℕ → Event → Option Sending → Device → Node → Stepped → Device
device_after_row clock s t e ended d n r = fold (obeyed clock s.id t) (moved t e ended d n (Some r)) r.orders

-- a place at which a frame alarm is awaited
abbrev pub AwaitsFrame : Stage → Type 0
AwaitsFrame Idle = ⊥
AwaitsFrame Scanning = ⊤
AwaitsFrame AwaitFrame = ⊤
AwaitsFrame (AwaitSlot j) = ⊥
AwaitsFrame (InWindow j w) = ⊥

abbrev pub NoWindow : Stage → Type 0
NoWindow Idle = ⊤
NoWindow Scanning = ⊤
NoWindow AwaitFrame = ⊤
NoWindow (AwaitSlot j) = ⊤
NoWindow (InWindow j w) = ⊥

-- no window is open
abbrev pub HasNoWindow : Power → Type 0
HasNoWindow (PowerOff boots) = ⊤
HasNoWindow (PowerOn n) = NoWindow n.stage

-- a start is missed where the radio is off or another transmission runs
abbrev pub CannotSend : Device → Type 0
CannotSend d = (d.listening ≡ None) ⊎ ((x : Sending) × (d.sending ≡ Some x))

-- the ordered transmission starts
abbrev pub with_start : Device → Sending → Device
with_start d x = record d { ordered = None; sending = Some x; made = record (d.made) { sent = d.made.sent ++ x ∷ [] } }

-- in this phase of tick t, of the run, the property holds of d
pub record Now (P : ℕ → Phase → Device → Type 0) (s : ScenarioParts) (t : ℕ) (phase : Phase) (d : Device) : Type 0 where
  pub in_run : t < run_end s
  pub known : NothingDue t phase d
  pub holds : P t phase d

-- what each step of tick t at v keeps, a name each. Left out is what changes nothing: a line that switches on a node that
-- is on, all other lines where the power is off, and packets for which the table has no row
module _ (P : ℕ → Phase → Device → Type 0) (s : ScenarioParts) (v : ℕ) (clock : ℕ → ℕ) (hs : List Reception) (t : ℕ) where
  abbrev pub Here : Phase → Device → Type 0
  Here phase d = Now P s t phase d

  abbrev pub ToldNext : ScriptLine → Device → Type 0
  ToldNext l d = IsNextLineOf s v clock hs t l d

  abbrev pub HeardNext : Reception → Device → Type 0
  HeardNext h d = IsNextHearing s v clock hs t h d

  abbrev pub DueNext : Device → Type 0
  DueNext d = IsNextAlarm s v clock hs t d

  abbrev pub Enters : Phase → Device → Type 0
  Enters phase d = d ≡ device_at s v clock hs t phase

  abbrev pub after : Event → Option Sending → Device → Node → Stepped → Device
  after e ended d n r = device_after_row clock (setup_of s v) t e ended d n r

  -- the script, with the row boot
  abbrev pub BootKept : Type 0
  BootKept = (d : Device) (l : ScriptLine) (count : ℕ) → Here Lines d → ToldNext l d
      → l.act ≡ On → d.power ≡ PowerOff count
      → P t Lines (device_after_on clock (setup_of s v) t count d)

  abbrev pub OffKept : Type 0
  OffKept = (d : Device) (l : ScriptLine) (n : Node) → Here Lines d → ToldNext l d → l.act ≡ Off → d.power ≡ PowerOn n
      → P t Lines (device_after_off v t n d)

  -- an act for a stream at a node that is on
  abbrev pub StreamKept : Type 0
  StreamKept = (d : Device) (l : ScriptLine) (n : Node) → Here Lines d → ToldNext l d
      → switch_of l.act ≡ None → d.power ≡ PowerOn n → P t Lines (with_new_core d n (core_after_act l.act n.core))

  -- receptions: while scanning, of a schedule of the rank, and in a window
  abbrev pub JoiningKept : Type 0
  JoiningKept = (d : Device) (h : Reception) (n : Node) (y : Schedule) → Here Hearings d → HeardNext h d
      → d.power ≡ PowerOn n → n.stage ≡ Scanning
      → message_of h.packet ≡ Some (ScheduleOf y) → y.plan.rank ≡ rank_of n.core.tune
      → P t Hearings (after (Heard h.packet) None d n (joins (setup_of s v) n (clock t) h.packet y))

  abbrev pub HearingKept : Type 0
  HearingKept = (d : Device) (h : Reception) (n : Node) (j : ℕ) (w : Window) → Here Hearings d → HeardNext h d
      → d.power ≡ PowerOn n → n.stage ≡ InWindow j w
      → P t Hearings (after (Heard h.packet) None d n (window_hears (setup_of s v) n (clock t) j w h.packet))

  -- the end of the own transmission: in a window whose flood waits for it, in one whose flood does not, and elsewhere
  abbrev pub SentKept : Type 0
  SentKept = (d : Device) (x : Sending) (n : Node) (j : ℕ) (w : Window) → Here End d → Enters End d
      → d.sending ≡ Some x → x.end ≡ t → d.power ≡ PowerOn n → n.stage ≡ InWindow j w → w.flood.waiting ≡ true
      → P t Alarms (after Sent (Some x) (record d { sending = None }) n (sends n j w))

  abbrev pub LateSentKept : Type 0
  LateSentKept = (d : Device) (x : Sending) (n : Node) (j : ℕ) (w : Window) → Here End d → Enters End d
      → d.sending ≡ Some x → x.end ≡ t → d.power ≡ PowerOn n → n.stage ≡ InWindow j w → w.flood.waiting ≡ false
      → P t Alarms (moved t Sent (Some x) (record d { sending = None }) n None)

  abbrev pub SentElsewhereKept : Type 0
  SentElsewhereKept = (d : Device) (x : Sending) → Here End d → Enters End d
      → d.sending ≡ Some x → x.end ≡ t → HasNoWindow d.power → P t Alarms (record d { sending = None })

  -- alarms: of the frame, the opening and the closing of a window, and elsewhere
  abbrev pub FrameAlarmKept : Type 0
  FrameAlarmKept = (d : Device) (n : Node) → Here Alarms d → DueNext d → d.power ≡ PowerOn n → AwaitsFrame n.stage
      → P t Alarms (after Alarm None (record d { alarm = None }) n (frame_alarms (setup_of s v) n))

  abbrev pub OpeningKept : Type 0
  OpeningKept = (d : Device) (n : Node) (j : ℕ) → Here Alarms d → DueNext d → d.power ≡ PowerOn n → n.stage ≡ AwaitSlot j
      → P t Alarms (after Alarm None (record d { alarm = None }) n (window_opens (setup_of s v) n j))

  abbrev pub ClosingKept : Type 0
  ClosingKept = (d : Device) (n : Node) (j : ℕ) (w : Window) → Here Alarms d → DueNext d
      → d.power ≡ PowerOn n → n.stage ≡ InWindow j w
      → P t Alarms (after Alarm None (record d { alarm = None }) n (window_closes (setup_of s v) n j w))

  abbrev pub AlarmElsewhereKept : Type 0
  AlarmElsewhereKept = (d : Device) (n : Node) → Here Alarms d → DueNext d → d.power ≡ PowerOn n → n.stage ≡ Idle
      → P t Alarms (record d { alarm = None })

  -- the start of the ordered transmission, and a start that is missed
  abbrev pub BeginningKept : Type 0
  BeginningKept = (d : Device) (o : OrderedPacket) (l : Listening) → Here Start d → Enters Start d
      → d.ordered ≡ Some o → o.tick ≡ t → d.listening ≡ Some l → d.sending ≡ None
      → P t Over (with_start d (sending_from (setup_of s v) t o.packet l))

  abbrev pub MissedStartKept : Type 0
  MissedStartKept = (d : Device) (o : OrderedPacket) → Here Start d → Enters Start d
      → d.ordered ≡ Some o → o.tick ≡ t → CannotSend d → P t Over (record d { ordered = None })

  -- what goes on to the next phase, nothing more being due in this one, stays as it is; and so does what goes on to the
  -- next tick
  abbrev pub OnwardsKept : Type 0
  OnwardsKept = (phase : Phase) (d : Device) → Here phase d → Enters (next_phase phase) d → NothingDue t (next_phase phase) d
      → P t (next_phase phase) d

  abbrev pub PassingKept : Type 0
  PassingKept = (d : Device) → Here Over d → d ≡ before_tick s v clock hs (suc t) → P (suc t) Lines d

  pub record Keeps : Type 0 where
    pub boot : BootKept
    pub off : OffKept
    pub streaming : StreamKept
    pub joining : JoiningKept
    pub hearing : HearingKept
    pub sent : SentKept
    pub late_sent : LateSentKept
    pub sent_elsewhere : SentElsewhereKept
    pub frame_alarm : FrameAlarmKept
    pub opening : OpeningKept
    pub closing : ClosingKept
    pub alarm_elsewhere : AlarmElsewhereKept
    pub beginning : BeginningKept
    pub missed_start : MissedStartKept
    pub onwards : OnwardsKept
    pub passing : PassingKept

-- a tick whose steps keep the property: it holds in each phase of the tick, and before the next
abbrev pub HoldsInTick : (ℕ → Phase → Device → Type 0) → Type 0
HoldsInTick P = (s : ScenarioParts) (v : ℕ) (clock : ℕ → ℕ) (hs : List Reception) (t : ℕ)
    → IsSoundScenario s → IsClock clock → t < run_end s → Keeps P s v clock hs t → P t Lines (before_tick s v clock hs t)
    → (((phase : Phase) → P t phase (device_at s v clock hs t phase))
    × P (suc t) Lines (before_tick s v clock hs (suc t)))

-- a trail at each of whose ticks the steps keep it: it holds before each
abbrev pub HoldsAlong : (ℕ → Phase → Device → Type 0) → Type 0
HoldsAlong P = (s : ScenarioParts) (v : ℕ) (clock : ℕ → ℕ) (hs : List Reception) → IsSoundScenario s → IsClock clock
    → P 0 Lines at_rest
    → ((t : ℕ) → t < run_end s → P t Lines (before_tick s v clock hs t) → Keeps P s v clock hs t)
    → (t : ℕ) → t ≤ run_end s → P t Lines (before_tick s v clock hs t)

-- before the tick it holds at every known node
abbrev pub HoldAll : (ℕ → ℕ → Phase → Device → Type 0) → ScenarioParts → (ℕ → ℕ → ℕ) → (ℕ → List Reception) → ℕ → Type 0
HoldAll P s clocks heard t = (v : ℕ) → knows s.nodes v ≡ true → P v t Lines (before_tick s v (clocks v) (heard v) t)

-- a run at each of whose ticks the steps keep it at every known node, where it holds at all of them before the tick
abbrev pub HoldsInRun : (ℕ → ℕ → Phase → Device → Type 0) → Type 0
HoldsInRun P = (s : ScenarioParts) (clocks : ℕ → ℕ → ℕ) (heard : ℕ → List Reception) → IsSoundScenario s
    → ((v : ℕ) → knows s.nodes v ≡ true → IsClock (clocks v))
    → ((v : ℕ) → knows s.nodes v ≡ true → P v 0 Lines at_rest)
    → ((t : ℕ) → t < run_end s → HoldAll P s clocks heard t
    → (v : ℕ) → knows s.nodes v ≡ true → Keeps (P v) s v (clocks v) (heard v) t)
    → (t : ℕ) → t ≤ run_end s → HoldAll P s clocks heard t

-- a node that is on is at a place, never waiting to be booted, and its alarm is set
abbrev pub IsAwakeStage : Stage → Type 0
IsAwakeStage Idle = ⊥
IsAwakeStage Scanning = ⊤
IsAwakeStage AwaitFrame = ⊤
IsAwakeStage (AwaitSlot j) = ⊤
IsAwakeStage (InWindow j w) = ⊤

abbrev pub AwakeBy : Device → Power → Type 0
AwakeBy d (PowerOff boots) = ⊤
AwakeBy d (PowerOn n) = IsAwakeStage n.stage × (is_some d.alarm ≡ true)

abbrev pub IsAwake : Device → Type 0
IsAwake d = AwakeBy d d.power
