-- What the steps of a tick keep of what a node sends in its windows, where the invariant holds.
use Rattle.std.specs.Prelude.{◌≡◌, ℕ, List, [], ◌∷◌, ◌++◌, Some, None}
use Rattle.std.specs.declared.option.Option.{Option}
use Rattle.lwb_base.specs.Messages.{Schedule}
use Rattle.lwb_packets.specs.declared.kind.Kind as Kind
use Rattle.glossy_relay.specs.FloodState.{listening}
use Rattle.glossy_relay.specs.Relaying.{reply_to, slot_of}
use Rattle.bus_rules.specs.Slots.{ScheduleOf, part_of, opened_slot}
use Rattle.lwb_member.specs.Said.{message_of}
use Rattle.node_core.specs.declared.stage.Stage.TheVariants.{Scanning, AwaitSlot, InWindow}
use Rattle.node_core.specs.Windows.{Window}
use Rattle.node_core.specs.Nodes.{Node}
use Rattle.node_core.specs.Rows.{reply_by}
use Rattle.scenario_text.specs.ScenarioParts.{ScenarioParts}
use Rattle.radio_model.specs.declared.sending.Sending.{Sending}
use Rattle.air_log.specs.declared.entry.Entry.{Entry}
use Rattle.air_log.specs.Devices.{Device, PowerOn, OrderedPacket, Listening}
use Rattle.air_log.specs.Lawful.{heard_by}
use Rattle.scenario_text.specs.Setups.{setup_of}
use Rattle.air_log.specs.Trails.{Reception, sending_from}
use Rattle.air_log.specs.WindowLogs.{WindowLog}
use Rattle.law_trails.specs.Phases.{Hearings, End, Alarms, Start, IsNextHearing, IsNextAlarm, device_at}
use Rattle.law_trails.specs.RowEffects.{relayed, said}
use Rattle.law_trails.specs.Walks.{Now}
use Rattle.law_safety.specs.KnownInRows.{IsHeardNow}
use Rattle.law_safety.specs.SetAlarms.{rank_at}
use Rattle.law_safety.specs.Rows.{IsFine}
use Rattle.law_windows.specs.OpenWindows.{AreClosed, IsOpenFirst, StandBy}
use Rattle.law_windows.specs.WindowFloods.{WindowHasFlood}
use Rattle.law_windows.specs.WindowSteps.{begun_log, joined_log, heard_log, sent_log, log_after_closing}

-- R is known of the windows of a node, of what is ordered and being sent, and of all that it has sent. Each step of tick t
-- that changes one of these keeps it
module _ (s : ScenarioParts) (clocks : ℕ → ℕ → ℕ) (air : List Entry) (v : ℕ)
    (R : List WindowLog → Option OrderedPacket → Option Sending → List Sending → Type 0) where
  abbrev pub Of : Device → Type 0
  Of d = R d.made.windows d.ordered d.sending d.made.sent

  module _ (t : ℕ) where
    abbrev pub OpenedKept : Type 0
    OpenedKept = (d : Device) (n : Node) (j : ℕ) → Now (IsFine s clocks air v) s t Alarms d → IsNextAlarm s v (clocks v) (heard_by air v) t d
        → d.power ≡ PowerOn n → n.stage ≡ AwaitSlot j → AreClosed d.made.windows → Of d
        → R (begun_log (setup_of s v) t n j ∷ d.made.windows)
        (said (clocks v) (setup_of s v) t n.zero j d.ordered (opened_slot (setup_of s v) n.frame (part_of n.core.plan j) n.core).message)
        d.sending d.made.sent

    abbrev pub JoinedKept : Type 0
    JoinedKept = (d : Device) (h : Reception) (n : Node) (y : Schedule) → Now (IsFine s clocks air v) s t Hearings d
        → IsNextHearing s v (clocks v) (heard_by air v) t h d → IsHeardNow s clocks air v t h d → d.power ≡ PowerOn n → n.stage ≡ Scanning
        → message_of h.packet ≡ Some (ScheduleOf y) → y.plan.rank ≡ rank_at n → AreClosed d.made.windows → Of d
        → R (joined_log (setup_of s v) t (clocks v t) n h.packet y ∷ d.made.windows)
        (relayed (clocks v) (setup_of s v) t d.ordered (reply_to (listening Kind.TheVariants.Schedule (slot_of h.packet) s.sends) h.packet))
        d.sending d.made.sent

    abbrev pub HeardKept : Type 0
    HeardKept = (d : Device) (h : Reception) (n : Node) (j : ℕ) (w : Window) → Now (IsFine s clocks air v) s t Hearings d
        → IsNextHearing s v (clocks v) (heard_by air v) t h d → IsHeardNow s clocks air v t h d
        → d.power ≡ PowerOn n → n.stage ≡ InWindow j w → (is : IsOpenFirst d.made.windows n j w)
        → WindowHasFlood (setup_of s v) is.first → Of d
        → R (heard_log (setup_of s v) t (clocks v t) n w h.packet is.first ∷ is.earlier)
        (relayed (clocks v) (setup_of s v) t d.ordered (reply_by (rank_at n) w h.packet))
        d.sending d.made.sent

    abbrev pub EndedKept : Type 0
    EndedKept = (d : Device) (y : Sending) (n : Node) (j : ℕ) (w : Window) → Now (IsFine s clocks air v) s t End d
        → d ≡ device_at s v (clocks v) (heard_by air v) t End → d.sending ≡ Some y → y.end ≡ t
        → d.power ≡ PowerOn n → n.stage ≡ InWindow j w → (is : IsOpenFirst d.made.windows n j w) → Of d
        → R (sent_log t w y.packet is.first ∷ is.earlier) d.ordered None d.made.sent

    abbrev pub ClosedKept : Type 0
    ClosedKept = (d : Device) (n : Node) (j : ℕ) (w : Window) → Now (IsFine s clocks air v) s t Alarms d
        → IsNextAlarm s v (clocks v) (heard_by air v) t d
        → d.power ≡ PowerOn n → n.stage ≡ InWindow j w → (is : IsOpenFirst d.made.windows n j w) → Of d
        → R (log_after_closing (setup_of s v) t n j w is.first ∷ is.earlier) d.ordered d.sending d.made.sent

    abbrev pub StartedKept : Type 0
    StartedKept = (d : Device) (o : OrderedPacket) (l : Listening) → Now (IsFine s clocks air v) s t Start d
        → d ≡ device_at s v (clocks v) (heard_by air v) t Start → d.ordered ≡ Some o → o.tick ≡ t
        → d.listening ≡ Some l → d.sending ≡ None → StandBy d.made.windows d.power → Of d
        → (let x = sending_from (setup_of s v) t o.packet l in
        R d.made.windows None (Some x) (d.made.sent ++ x ∷ []))

    pub record KeepsSendings : Type 0 where
      pub opened_kept : OpenedKept
      pub joined_kept : JoinedKept
      pub heard_kept : HeardKept
      pub ended_kept : EndedKept
      pub closed_kept : ClosedKept
      pub started_kept : StartedKept
