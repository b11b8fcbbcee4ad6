-- What each row of the node table leaves of a device.
use Rattle.std.proofs.Common.{◌≡◌, ℕ, ◌+◌, List, [], ◌∷◌, ◌++◌, Bool, true, false, ◌==◌, if◌then◌else◌, fold, Some, None, Option, refl, ◌∙◌}
use Rattle.std.proofs.lemmas.List.Sums.{fold-append}
use Rattle.lwb_base.specs.declared.event.Event.{Event}
use Rattle.lwb_base.specs.declared.event.Event.TheVariants.{Alarm, Heard, Sent}
use Rattle.lwb_base.specs.declared.order.Order.{Order}
use Rattle.lwb_base.specs.declared.order.Order.TheVariants.{Off, Alarm as AlarmAt}
use Rattle.lwb_packets.specs.declared.kind.Kind as Kind
use Rattle.radio_model.specs.declared.sending.Sending.{Sending}
use Rattle.glossy_relay.specs.FloodState.{listening}
use Rattle.glossy_relay.specs.Relaying.{reply_to, slot_of}
use Rattle.glossy_relay.specs.declared.flood.Reply.{Reply}
use Rattle.glossy_relay.specs.declared.flood.Reply.TheVariants.{Relay, Keep, Ignore}
use Rattle.bus_rules.specs.declared.tune.Tune.{Tune}
use Rattle.bus_rules.specs.declared.tune.Tune.TheVariants.{Scan, Hold, Host}
use Rattle.bus_rules.specs.Tuning.{rank_of}
use Rattle.bus_rules.specs.Cores.{Setup}
use Rattle.bus_rules.specs.Slots.{Message, part_of, opened_slot}
use Rattle.node_core.specs.Nodes.{Node, closes_at, zero_from}
use Rattle.node_core.specs.Rows.{Stepped, orders_for, relaying, initiating_orders, reply_by, frame_alarms, window_opens, window_closes, window_hears, joins}
use Rattle.node_core.specs.Rows.{sends}
use Rattle.air_log.specs.Devices.{Device, OrderedPacket}
use Rattle.law_trails.specs.Obeying.{channel_if_on, channel_by, alarm_by, ordered_by}
use Rattle.law_trails.specs.RowEffects.{Leaves, when, relayed, said, frame_channel, frame_time, BootLeaves, JoiningLeaves, HearingLeaves, SentLeaves}
use Rattle.law_trails.specs.RowEffects.{FrameAlarmLeaves, OpeningLeaves, ClosingLeaves}
use Rattle.law_trails.specs.Walks.{device_after_row}
use Rattle.law_trails.proofs.RowsOfDevices.{row_obeyed, switched_on_is}

module _ (clock : ℕ → ℕ) (s : Setup) (t : ℕ) where
  -- these orders leave this channel, alarm and order, if those were there before
  record Come (os : List Order) (channel alarm : Option ℕ) (ordered : Option OrderedPacket) (channel_to alarm_to : Option ℕ)
      (ordered_to : Option OrderedPacket) : Type 0 where
    channel_by_all : fold channel_by channel os ≡ channel_to
    alarm_by_all : fold (alarm_by clock t) alarm os ≡ alarm_to
    ordered_by_all : fold (ordered_by clock t) ordered os ≡ ordered_to

  by_orders : (e : Event) (x : Option Sending) (d : Device) (n : Node) (r : Stepped) (channel alarm : Option ℕ) (ordered : Option OrderedPacket)
      → Come r.orders (channel_if_on d.listening) d.alarm d.ordered channel alarm ordered
      → Leaves d r.node channel alarm ordered (device_after_row clock s t e x d n r)
  by_orders e x d n r channel alarm ordered come =
      let is = row_obeyed clock s t e x d n r in
      record {
        power = is.power;
        channel_is = is.channel ∙ come.channel_by_all;
        alarm_is = is.alarm ∙ come.alarm_by_all;
        ordered_is = is.ordered ∙ come.ordered_by_all;
        sending = is.sending;
        sent = is.sent;
      }

  relays : (c a : Option ℕ) (o : Option OrderedPacket) (r : Reply) → Come (relaying s.profile (clock t) r) c a o c a (relayed clock s t o r)
  relays c a o (Relay q) = record { channel_by_all = refl; alarm_by_all = refl; ordered_by_all = refl }
  relays c a o Keep = record { channel_by_all = refl; alarm_by_all = refl; ordered_by_all = refl }
  relays c a o Ignore = record { channel_by_all = refl; alarm_by_all = refl; ordered_by_all = refl }

  says : (z j : ℕ) (c a : Option ℕ) (o : Option OrderedPacket) (m : Option Message)
      → Come (initiating_orders s.profile z j m) c a o c a (said clock s t z j o m)
  says z j c a o None = record { channel_by_all = refl; alarm_by_all = refl; ordered_by_all = refl }
  says z j c a o (Some m) = record { channel_by_all = refl; alarm_by_all = refl; ordered_by_all = refl }

  -- and an alarm after them
  then_alarm : (os : List Order) (local : ℕ) (c a : Option ℕ) (o : Option OrderedPacket) (c' a' : Option ℕ) (o' : Option OrderedPacket)
      → Come os c a o c' a' o' → Come (os ++ AlarmAt local ∷ []) c a o c' (Some (when clock s t local)) o'
  then_alarm os local c a o c' a' o' come = record {
    channel_by_all = fold-append channel_by c os (AlarmAt local ∷ []) ∙ come.channel_by_all;
    alarm_by_all = fold-append (alarm_by clock t) a os (AlarmAt local ∷ []);
    ordered_by_all = fold-append (ordered_by clock t) o os (AlarmAt local ∷ []) ∙ come.ordered_by_all;
  }

  pub boot_leaves : BootLeaves clock s t
  boot_leaves d count =
      let is = switched_on_is clock s t count d in
      record { power = is.power; channel_is = is.channel; alarm_is = is.alarm; ordered_is = is.ordered; sending = is.sending; sent = is.sent }

  pub joining_leaves : JoiningLeaves clock s t
  joining_leaves d n p y =
      let reply = reply_to (listening Kind.TheVariants.Schedule (slot_of p) s.sends) p in
      let close = closes_at s.profile (zero_from s.profile (clock t) p) (slot_of p) in
      let c = channel_if_on d.listening in
      let o = relayed clock s t d.ordered reply in
      by_orders (Heard p) None d n (joins s n (clock t) p y) c (Some (when clock s t close)) o
      (then_alarm (relaying s.profile (clock t) reply) close c d.alarm d.ordered c d.alarm o (relays c d.alarm d.ordered reply))

  pub hearing_leaves : HearingLeaves clock s t
  hearing_leaves d n j w p =
      let reply = reply_by (rank_of n.core.tune) w p in
      by_orders (Heard p) None d n (window_hears s n (clock t) j w p) (channel_if_on d.listening) d.alarm (relayed clock s t d.ordered reply)
      (relays (channel_if_on d.listening) d.alarm d.ordered reply)

  pub sent_leaves : SentLeaves clock s t
  sent_leaves d x n j w =
      let c = channel_if_on d.listening in
      let spent = w.flood.sent + 1 == w.flood.limit in
      by_orders Sent (Some x) d n (sends n j w) (if spent then None else c) d.alarm d.ordered (of_test spent)
    where
      of_test : (b : Bool) → Come (if b then Off ∷ [] else []) (channel_if_on d.listening) d.alarm d.ordered
          (if b then None else channel_if_on d.listening) d.alarm d.ordered
      of_test true = record { channel_by_all = refl; alarm_by_all = refl; ordered_by_all = refl }
      of_test false = record { channel_by_all = refl; alarm_by_all = refl; ordered_by_all = refl }

  by_tune : (tune : Tune) (f z : ℕ) (c a : Option ℕ) (o : Option OrderedPacket)
      → Come (orders_for s.profile tune f z) c a o (frame_channel clock s t tune) (Some (when clock s t (frame_time clock s t tune f z))) o
  by_tune (Scan r waited) f z c a o = record { channel_by_all = refl; alarm_by_all = refl; ordered_by_all = refl }
  by_tune (Hold r due) f z c a o = record { channel_by_all = refl; alarm_by_all = refl; ordered_by_all = refl }
  by_tune (Host r due) f z c a o = record { channel_by_all = refl; alarm_by_all = refl; ordered_by_all = refl }

  pub frame_alarm_leaves : FrameAlarmLeaves clock s t
  frame_alarm_leaves d n =
      let r = frame_alarms s n in
      let m = r.node in
      by_orders Alarm None d n r (frame_channel clock s t m.core.tune) (Some (when clock s t (frame_time clock s t m.core.tune m.frame m.zero))) d.ordered
      (by_tune m.core.tune m.frame m.zero (channel_if_on d.listening) d.alarm d.ordered)

  pub opening_leaves : OpeningLeaves clock s t
  opening_leaves d n j =
      let m = (opened_slot s n.frame (part_of n.core.plan j) n.core).message in
      let rank = rank_of n.core.tune in
      let close = closes_at s.profile n.zero j in
      let o = said clock s t n.zero j d.ordered m in
      let come = then_alarm (initiating_orders s.profile n.zero j m) close (Some rank) d.alarm d.ordered (Some rank) d.alarm o
      (says n.zero j (Some rank) d.alarm d.ordered m) in
      by_orders Alarm None d n (window_opens s n j) (Some rank) (Some (when clock s t close)) o
      (record { channel_by_all = come.channel_by_all; alarm_by_all = come.alarm_by_all; ordered_by_all = come.ordered_by_all })

  pub closing_leaves : ClosingLeaves clock s t
  closing_leaves d n j w =
      let is = row_obeyed clock s t Alarm None d n (window_closes s n j w) in
      record { power = is.power; channel_is = is.channel; alarm_is = is.alarm; ordered_is = is.ordered; sending = is.sending; sent = is.sent }
