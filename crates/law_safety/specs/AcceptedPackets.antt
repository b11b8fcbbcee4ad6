-- What an open window has accepted.
use Rattle.std.specs.Prelude.{◌≡◌, ℕ, List, true, Some, slice_index}
use Rattle.std.specs.Option.{IfSome}
use Rattle.lwb_base.specs.Messages.{Schedule}
use Rattle.glossy_relay.specs.Relaying.{accepted_of}
use Rattle.bus_rules.specs.Slots.{ScheduleOf, is_schedule_part}
use Rattle.lwb_member.specs.Said.{message_of}
use Rattle.node_core.specs.Windows.{Window}
use Rattle.node_core.specs.Nodes.{Node, zero_from}
use Rattle.node_core.specs.Rows.{part_by, last_by}
use Rattle.scenario_text.specs.ScenarioParts.{ScenarioParts}
use Rattle.radio_model.specs.declared.sending.Sending.{Sending}
use Rattle.air_log.specs.declared.entry.Entry.{Entry}
use Rattle.law_safety.specs.SetAlarms.{rank_at}
use Rattle.law_safety.specs.TunedNodes.{is_joining}
use Rattle.law_safety.specs.OrderedSendings.{HeardIn}

-- a window that a received schedule opened has accepted it
pub record HasJoined (n : Node) (j : ℕ) (w : Window) : Type 0 where
  pub schedule : Schedule
  pub packet : List ℕ
  pub accepted : accepted_of w.flood ≡ Some (packet, slice_index packet 2)
  pub says : message_of packet ≡ Some (ScheduleOf schedule)
  pub rank : schedule.plan.rank ≡ rank_at n
  pub reference : w.reference ≡ Some n.zero
  pub last : w.last ≡ last_by schedule j
  pub part : w.part ≡ part_by schedule

module _ (s : ScenarioParts) (clocks : ℕ → ℕ → ℕ) (air : List Entry) (v : ℕ) where
  -- what a window accepted was received in it, and its reference is by that reception
  pub record IsAccepted (told : ℕ) (n : Node) (j : ℕ) (w : Window) (packet : List ℕ) : Type 0 where
    pub heard : Sending
    pub in_slot : HeardIn s air v told n j heard
    pub is : packet ≡ heard.packet
    pub reference : is_schedule_part w.part ≡ true
        → w.reference ≡ Some (zero_from s.profile (clocks v heard.end) packet)

  pub record HasAccepted (told : ℕ) (n : Node) (j : ℕ) (w : Window) : Type 0 where
    pub each : IfSome (accepted_of w.flood) (λ a. IsAccepted told n j w a.0)
    pub joined : is_joining n ≡ true → HasJoined n j w
