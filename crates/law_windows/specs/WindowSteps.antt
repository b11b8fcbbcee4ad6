-- What the steps of a tick keep of a node's windows, where the invariant holds.
use Rattle.std.specs.Prelude.{◌≡◌, ℕ, suc, List, [], ◌∷◌, ◌++◌, true, Some, None, Contains}
use Rattle.lwb_base.specs.Messages.{Schedule}
use Rattle.lwb_base.specs.declared.event.Event.TheVariants.{Alarm, Heard}
use Rattle.lwb_packets.specs.declared.kind.Kind as Kind
use Rattle.glossy_relay.specs.FloodState.{listening}
use Rattle.glossy_relay.specs.Relaying.{after_heard, after_sent, slot_of}
use Rattle.bus_rules.specs.declared.delivery.Delivery.{Delivery}
use Rattle.bus_rules.specs.Plans.{last_slot}
use Rattle.bus_rules.specs.Tuning.{rank_of}
use Rattle.bus_rules.specs.Cores.{Setup}
use Rattle.bus_rules.specs.Slots.{ScheduleOf, part_of, opened_slot}
use Rattle.lwb_member.specs.Said.{message_of}
use Rattle.node_core.specs.declared.stage.Stage.TheVariants.{Scanning, AwaitSlot, InWindow}
use Rattle.node_core.specs.Windows.{Window}
use Rattle.node_core.specs.Nodes.{Node, zero_from}
use Rattle.node_core.specs.Rows.{flood_for, hearing, joins, last_by, part_by, window_closes, window_opens}
use Rattle.scenario_text.specs.ScenarioParts.{ScenarioParts}
use Rattle.radio_model.specs.declared.sending.Sending.{Sending}
use Rattle.air_log.specs.declared.entry.Entry.{Entry}
use Rattle.air_log.specs.Devices.{Device, Power, PowerOn}
use Rattle.air_log.specs.Lawful.{heard_by}
use Rattle.scenario_text.specs.Setups.{setup_of}
use Rattle.air_log.specs.Trails.{Reception}
use Rattle.air_log.specs.WindowLogs.{WindowLog, HeardAt, SentAt, opened_log}
use Rattle.law_trails.specs.Phases.{Phase, Lines, Hearings, End, Alarms, Start, Over, IsNextHearing, IsNextAlarm, device_at}
use Rattle.law_trails.specs.TrailLinks.{device_in}
use Rattle.law_trails.specs.Walks.{Now}
use Rattle.law_safety.specs.SetAlarms.{rank_at}
use Rattle.law_safety.specs.KnownInRows.{IsHeardNow}
use Rattle.law_safety.specs.Rows.{IsFine}
use Rattle.law_windows.specs.OpenWindows.{CloseBeforeNext, ClosedBy, IsOpenWindow, StandBy}
use Rattle.law_windows.specs.WindowDeliveries.{delivered_in}

-- the window that the row makes, where a slot's alarm is due and where a scanning node receives a schedule
abbrev pub begun_window : Setup → Node → ℕ → Window
begun_window s n j =
    let part = part_of n.core.plan j in
    record { part = part; last = last_slot n.core.plan; flood = flood_for s part j (opened_slot s n.frame part n.core).message; reference = None }

abbrev pub joined_window : Setup → ℕ → List ℕ → Schedule → Window
joined_window s now p y =
    let j = slot_of p in
    record {
      part = part_by y;
      last = last_by y j;
      flood = after_heard (listening Kind.TheVariants.Schedule j s.sends) p;
      reference = Some (zero_from s.profile now p);
    }

-- what is kept of them, and of a window in which a packet was received, an own transmission has ended, and that closes
abbrev pub begun_log : Setup → ℕ → Node → ℕ → WindowLog
begun_log s t n j = opened_log t Alarm None n (window_opens s n j).node j (begun_window s n j)

abbrev pub joined_log : Setup → ℕ → ℕ → Node → List ℕ → Schedule → WindowLog
joined_log s t now n p y = opened_log t (Heard p) None n (joins s n now p y).node (slot_of p) (joined_window s now p y)

abbrev pub heard_log : Setup → ℕ → ℕ → Node → Window → List ℕ → WindowLog → WindowLog
heard_log s t now n w p x =
    record x { happenings = x.happenings ++ HeardAt t p ∷ []; last = hearing s.profile (rank_of n.core.tune) now w p }

abbrev pub sent_log : ℕ → Window → List ℕ → WindowLog → WindowLog
sent_log t w p x = record x { happenings = x.happenings ++ SentAt t p ∷ []; last = record w { flood = after_sent w.flood } }

abbrev pub log_after_closing : Setup → ℕ → Node → ℕ → Window → WindowLog → WindowLog
log_after_closing s t n j w x = record x { closed = Some (record { tick = t; after = (window_closes s n j w).node }) }

-- up to which tick all receptions have been taken in a phase of tick t
abbrev pub taken_in : ℕ → Phase → ℕ
taken_in t Lines = t
taken_in t Hearings = t
taken_in t End = suc t
taken_in t Alarms = suc t
taken_in t Start = suc t
taken_in t Over = suc t

-- Q is known of each window; none that has closed closed later than now
module _ (s : ScenarioParts) (v : ℕ) (Q : WindowLog → Type 0) (now : ℕ) where
  pub record HaveWindows (logs : List WindowLog) (deliveries : List Delivery) (p : Power) : Type 0 where
    pub each : (x : WindowLog) → Contains logs x → Q x
    pub past : (x : WindowLog) → Contains logs x → ClosedBy now x
    pub apart : CloseBeforeNext logs
    pub stand : StandBy logs p
    pub delivered : deliveries ≡ delivered_in (setup_of s v) logs

  abbrev pub HasWindows : Device → Type 0
  HasWindows d = HaveWindows d.made.windows d.made.deliveries d.power

-- K is known of each window at a tick, all receptions that end before another having been taken. It is kept by each step of
-- tick t that opens a window, goes on in it or closes it, where the receptions of the tick have been taken, and by the next
-- tick
module _ (s : ScenarioParts) (clocks : ℕ → ℕ → ℕ) (air : List Entry) (v : ℕ) (K : ℕ → ℕ → WindowLog → Type 0) where
  module _ (t : ℕ) where
    abbrev pub BegunKept : Type 0
    BegunKept = (d : Device) (n : Node) (j : ℕ) → IsFine s clocks air v t Alarms d → IsNextAlarm s v (clocks v) (heard_by air v) t d
        → d.power ≡ PowerOn n → n.stage ≡ AwaitSlot j
        → K t (suc t) (begun_log (setup_of s v) t n j)

    abbrev pub JoinedKept : Type 0
    JoinedKept = (d : Device) (h : Reception) (n : Node) (y : Schedule) → IsFine s clocks air v t Hearings d
        → IsNextHearing s v (clocks v) (heard_by air v) t h d → IsHeardNow s clocks air v t h d → d.power ≡ PowerOn n → n.stage ≡ Scanning
        → message_of h.packet ≡ Some (ScheduleOf y) → y.plan.rank ≡ rank_at n
        → K t t (joined_log (setup_of s v) t (clocks v t) n h.packet y)

    abbrev pub HeardKept : Type 0
    HeardKept = (d : Device) (h : Reception) (n : Node) (j : ℕ) (w : Window) (x : WindowLog) → Now (IsFine s clocks air v) s t Hearings d
        → IsNextHearing s v (clocks v) (heard_by air v) t h d → IsHeardNow s clocks air v t h d
        → d.power ≡ PowerOn n → n.stage ≡ InWindow j w → IsOpenWindow n j w x → Contains d.made.windows x → K t t x
        → K t t (heard_log (setup_of s v) t (clocks v t) n w h.packet x)

    abbrev pub TakenKept : Type 0
    TakenKept = (d : Device) → IsFine s clocks air v t Hearings d → d ≡ device_at s v (clocks v) (heard_by air v) t End
        → HasWindows s v (K t t) t (device_in s clocks air v t) → HasWindows s v (K t t) t d
        → (x : WindowLog) → Contains d.made.windows x → K t (suc t) x

    abbrev pub SentKept : Type 0
    SentKept = (d : Device) (y : Sending) (n : Node) (j : ℕ) (w : Window) (x : WindowLog) → IsFine s clocks air v t End d
        → d ≡ device_at s v (clocks v) (heard_by air v) t End → d.sending ≡ Some y → y.end ≡ t → d.power ≡ PowerOn n
        → n.stage ≡ InWindow j w → w.flood.waiting ≡ true → IsOpenWindow n j w x
        → Contains d.made.windows x → K t (suc t) x → K t (suc t) (sent_log t w y.packet x)

    abbrev pub ClosedKept : Type 0
    ClosedKept = (d : Device) (n : Node) (j : ℕ) (w : Window) (x : WindowLog) → IsFine s clocks air v t Alarms d
        → IsNextAlarm s v (clocks v) (heard_by air v) t d → d.power ≡ PowerOn n → n.stage ≡ InWindow j w → IsOpenWindow n j w x
        → K t (suc t) x → K t (suc t) (log_after_closing (setup_of s v) t n j w x)

    abbrev pub PassedKept : Type 0
    PassedKept = (x : WindowLog) → K t (suc t) x → K (suc t) (suc t) x

    pub record KeepsWindows : Type 0 where
      pub begun : BegunKept
      pub joined : JoinedKept
      pub heard : HeardKept
      pub taken : TakenKept
      pub sent : SentKept
      pub closed : ClosedKept
      pub passed : PassedKept
