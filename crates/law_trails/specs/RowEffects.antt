-- What each row of the node table leaves of a device.
use Rattle.std.specs.Prelude.{◌≡◌, ℕ, ◌+◌, List, ◌==◌, nat_lt, if◌then◌else◌, Some, None, max}
use Rattle.std.specs.declared.option.Option.{Option}
use Rattle.lwb_base.specs.Messages.{Schedule}
use Rattle.lwb_base.specs.declared.event.Event.TheVariants.{Alarm, Heard, Sent}
use Rattle.lwb_packets.specs.declared.kind.Kind as Kind
use Rattle.tick_clock.specs.Clocks.{due}
use Rattle.time_reference.specs.Reference.{stopped}
use Rattle.radio_model.specs.declared.sending.Sending.{Sending}
use Rattle.glossy_relay.specs.FloodState.{listening}
use Rattle.glossy_relay.specs.Relaying.{reply_to, slot_of}
use Rattle.glossy_relay.specs.declared.flood.Reply.{Reply}
use Rattle.glossy_relay.specs.declared.flood.Reply.TheVariants.{Relay, Keep, Ignore}
use Rattle.bus_rules.specs.declared.tune.Tune.{Tune}
use Rattle.bus_rules.specs.declared.tune.Tune.TheVariants.{Scan, Hold, Host}
use Rattle.bus_rules.specs.Tuning.{rank_of}
use Rattle.bus_rules.specs.Cores.{Setup}
use Rattle.bus_rules.specs.Slots.{Message, part_of, opened_slot}
use Rattle.lwb_member.specs.Said.{bytes_of}
use Rattle.node_core.specs.Windows.{Window}
use Rattle.node_core.specs.Nodes.{Node, frame_alarm, opens_at, starts_at, closes_at, zero_from, rebooted}
use Rattle.node_core.specs.Rows.{boots, frame_alarms, window_opens, window_closes, window_hears, joins, sends, reply_by, zero_by, accepted_in}
use Rattle.air_log.specs.Devices.{Device, PowerOn, OrderedPacket}
use Rattle.air_log.specs.ScriptedDevices.{device_after_on}
use Rattle.law_trails.specs.Obeying.{channel_if_on}
use Rattle.law_trails.specs.Walks.{device_after_row}

-- e comes of d: its node, the channel of its radio, its alarm and what is ordered are these, and it has sent no more
pub record Leaves (d : Device) (n : Node) (channel alarm : Option ℕ) (ordered : Option OrderedPacket) (e : Device) : Type 0 where
  pub power : e.power ≡ PowerOn n
  pub channel_is : channel_if_on e.listening ≡ channel
  pub alarm_is : e.alarm ≡ alarm
  pub ordered_is : e.ordered ≡ ordered
  pub sending : e.sending ≡ d.sending
  pub sent : e.made.sent ≡ d.made.sent

-- at tick t, by the node's clock, for the node of this setup
module _ (clock : ℕ → ℕ) (s : Setup) (t : ℕ) where
  -- the tick at which a local time comes, or the present one if it has passed
  abbrev pub when : ℕ → ℕ
  when local = max (due clock local) t

  abbrev pub order : ℕ → List ℕ → Option OrderedPacket
  order local packet = Some (record { tick = when local; packet = packet })

  -- what is ordered after a reply of the flood, and where a window opens
  abbrev pub relayed : Option OrderedPacket → Reply → Option OrderedPacket
  relayed o (Relay q) = order (stopped (clock t + s.profile.turn)) q
  relayed o Keep = o
  relayed o Ignore = o

  abbrev pub said : ℕ → ℕ → Option OrderedPacket → Option Message → Option OrderedPacket
  said z j o None = o
  said z j o (Some m) = order (starts_at s.profile z j) (bytes_of m j)

  -- a frame's channel and alarm, by the tune
  abbrev pub frame_channel : Tune → Option ℕ
  frame_channel (Scan r waited) = Some r
  frame_channel (Hold r due) = None
  frame_channel (Host r due) = None

  abbrev pub frame_time : Tune → ℕ → ℕ → ℕ
  frame_time (Scan r waited) f z = frame_alarm s.profile f
  frame_time (Hold r due) f z = if due == f then z else frame_alarm s.profile f
  frame_time (Host r due) f z = if due == f then z else frame_alarm s.profile f

  abbrev pub BootLeaves : Type 0
  BootLeaves = (d : Device) (count : ℕ)
      → (let n = (boots s (rebooted (count + 1)) (clock t)).node in
      Leaves d n (Some 0) (Some (when (frame_alarm s.profile n.frame))) d.ordered (device_after_on clock s t count d))

  abbrev pub JoiningLeaves : Type 0
  JoiningLeaves = (d : Device) (n : Node) (p : List ℕ) (y : Schedule)
      → (let reply = reply_to (listening Kind.TheVariants.Schedule (slot_of p) s.sends) p in
      let close = closes_at s.profile (zero_from s.profile (clock t) p) (slot_of p) in
      let r = joins s n (clock t) p y in
      Leaves d r.node (channel_if_on d.listening) (Some (when close)) (relayed d.ordered reply) (device_after_row clock s t (Heard p) None d n r))

  abbrev pub HearingLeaves : Type 0
  HearingLeaves = (d : Device) (n : Node) (j : ℕ) (w : Window) (p : List ℕ)
      → (let r = window_hears s n (clock t) j w p in
      Leaves d r.node (channel_if_on d.listening) d.alarm (relayed d.ordered (reply_by (rank_of n.core.tune) w p))
      (device_after_row clock s t (Heard p) None d n r))

  -- d: its transmission has been taken off
  abbrev pub SentLeaves : Type 0
  SentLeaves = (d : Device) (x : Sending) (n : Node) (j : ℕ) (w : Window)
      → (let r = sends n j w in
      let channel = if w.flood.sent + 1 == w.flood.limit then None else channel_if_on d.listening in
      Leaves d r.node channel d.alarm d.ordered (device_after_row clock s t Sent (Some x) d n r))

  -- d: its alarm has been taken off
  abbrev pub FrameAlarmLeaves : Type 0
  FrameAlarmLeaves = (d : Device) (n : Node)
      → (let r = frame_alarms s n in
      let m = r.node in
      Leaves d m (frame_channel m.core.tune) (Some (when (frame_time m.core.tune m.frame m.zero))) d.ordered (device_after_row clock s t Alarm None d n r))

  abbrev pub OpeningLeaves : Type 0
  OpeningLeaves = (d : Device) (n : Node) (j : ℕ)
      → (let r = window_opens s n j in
      let o = opened_slot s n.frame (part_of n.core.plan j) n.core in
      Leaves d r.node (Some (rank_of n.core.tune)) (Some (when (closes_at s.profile n.zero j))) (said n.zero j d.ordered o.message)
      (device_after_row clock s t Alarm None d n r))

  abbrev pub ClosingLeaves : Type 0
  ClosingLeaves = (d : Device) (n : Node) (j : ℕ) (w : Window)
      → (let r = window_closes s n j w in
      let zero = zero_by s.profile n.zero w.reference (accepted_in w) in
      let next = if nat_lt j w.last then opens_at s.profile zero (j + 1) else frame_alarm s.profile n.frame in
      Leaves d r.node None (Some (when next)) d.ordered (device_after_row clock s t Alarm None d n r))
