-- What an event does to a node, by the reading of its clock. Each row is named.
use Rattle.std.specs.Prelude.{true, ℕ, ◌+◌, ◌*◌, ◌/◌, List, [], ◌∷◌, ◌++◌, Bool, false, not, ◌&&◌, ◌==◌, nat_lt}
use Rattle.std.specs.Prelude.{if◌then◌else◌, Some, None, option_map, option_and_then, is_none}
use Rattle.std.specs.declared.option.Option.{Option}
use Rattle.lwb_base.specs.Profile.{Numbers}
use Rattle.lwb_base.specs.Messages.{Schedule}
use Rattle.lwb_base.specs.declared.event.Event.{Event}
use Rattle.lwb_base.specs.declared.event.Event.TheVariants.{Boot, Alarm, Heard, Sent}
use Rattle.lwb_base.specs.declared.order.Order.{Order}
use Rattle.lwb_base.specs.declared.order.Order.TheVariants.{Listen, Off, SendAt, Alarm as AlarmAt}
use Rattle.lwb_packets.specs.declared.kind.Kind as Kind
use Rattle.time_reference.specs.Reference.{stopped}
use Rattle.glossy_relay.specs.FloodState.{FloodState, listening, initiating}
use Rattle.glossy_relay.specs.Relaying.{reply_to, after_heard, after_sent, accepted_of, slot_of}
use Rattle.glossy_relay.specs.declared.flood.Reply.{Reply}
use Rattle.glossy_relay.specs.declared.flood.Reply.TheVariants.{Relay, Keep, Ignore}
use Rattle.bus_rules.specs.declared.delivery.Delivery.{Delivery}
use Rattle.bus_rules.specs.declared.part.Part.{Part}
use Rattle.bus_rules.specs.declared.part.Part.TheVariants.{Opening, Closing}
use Rattle.bus_rules.specs.declared.tune.Tune.{Tune}
use Rattle.bus_rules.specs.declared.tune.Tune.TheVariants.{Scan, Hold, Host}
use Rattle.bus_rules.specs.Plans.{last_slot}
use Rattle.bus_rules.specs.Tuning.{rank_of}
use Rattle.bus_rules.specs.Cores.{Setup, booted, frame_ended, begins_host}
use Rattle.bus_rules.specs.Slots.{Message, ScheduleOf, DataOf, RequestOf, part_of, opened_slot, closed_slot, delivery_of, is_schedule_part}
use Rattle.lwb_member.specs.Places.{kind_for}
use Rattle.lwb_member.specs.Said.{bytes_of, message_of}
use Rattle.node_core.specs.declared.stage.Stage.{Stage}
use Rattle.node_core.specs.declared.stage.Stage.TheVariants.{Idle, Scanning, AwaitFrame, AwaitSlot, InWindow}
use Rattle.node_core.specs.Windows.{Window}
use Rattle.node_core.specs.Nodes.{Node, stopped_frame, frame_alarm, zero_of_host, opens_at, starts_at, closes_at, zero_from}

-- what a row leaves: the new state, the orders, and a delivery, if there is one
pub record Stepped : Type 0 where
  pub node : Node
  pub orders : List Order
  pub delivery : Option Delivery

-- boot
abbrev pub boots : Setup → Node → ℕ → Stepped
boots s n now =
    let f = stopped_frame ((now + s.profile.lead) / s.profile.frame) in
    record {
      node = record { core = booted n.core.boot; frame = f; zero = 0; stage = Scanning };
      orders = Listen 0 ∷ AlarmAt (frame_alarm s.profile f) ∷ [];
      delivery = None;
    }

-- frame alarm, and quiet ends where the tune becomes Host. With the new tune, in the new frame f:
abbrev pub stage_for : Tune → ℕ → Stage
stage_for (Scan r waited) f = Scanning
stage_for (Hold r due) f = if due == f then AwaitSlot 0 else AwaitFrame
stage_for (Host r due) f = if due == f then AwaitSlot 0 else AwaitFrame

abbrev pub waits : Numbers → ℕ → ℕ → ℕ → List Order
waits p due f z = Off ∷ AlarmAt (if due == f then z else frame_alarm p f) ∷ []

abbrev pub orders_for : Numbers → Tune → ℕ → ℕ → List Order
orders_for p (Scan r waited) f z = Listen r ∷ AlarmAt (frame_alarm p f) ∷ []
orders_for p (Hold r due) f z = waits p due f z
orders_for p (Host r due) f z = waits p due f z

abbrev pub zero_for : Numbers → Tune → Option ℕ → ℕ → ℕ
zero_for p (Host r due) (Some rank) z = zero_of_host p due
zero_for p tune began z = z

abbrev pub frame_alarms : Setup → Node → Stepped
frame_alarms s n =
    let core = frame_ended s n.frame n.core in
    let f = stopped_frame (n.frame + 1) in
    let z = zero_for s.profile core.tune (begins_host n.core.tune core.tune) n.zero in
    record {
      node = record { core = core; frame = f; zero = z; stage = stage_for core.tune f };
      orders = orders_for s.profile core.tune f z;
      delivery = None;
    }

-- window opens, with host plans in the last slot of a host
abbrev pub flood_for : Setup → Part → ℕ → Option Message → FloodState
flood_for s part j None = listening (kind_for part) j s.sends
flood_for s part j (Some m) = initiating (bytes_of m j) s.sends

abbrev pub initiating_orders : Numbers → ℕ → ℕ → Option Message → List Order
initiating_orders p z j None = []
initiating_orders p z j (Some m) = SendAt (starts_at p z j) (bytes_of m j) ∷ []

abbrev pub window_opens : Setup → Node → ℕ → Stepped
window_opens s n j =
    let part = part_of n.core.plan j in
    let o = opened_slot s n.frame part n.core in
    record {
      node = record n {
        core = o.core;
        stage = InWindow j (record { part = part; last = last_slot n.core.plan; flood = flood_for s part j o.message; reference = None });
      };
      orders = Listen (rank_of n.core.tune) ∷ initiating_orders s.profile n.zero j o.message ++ AlarmAt (closes_at s.profile n.zero j) ∷ [];
      delivery = None;
    }

-- a relay begins a turnaround after the end of the reception
abbrev pub relaying : Numbers → ℕ → Reply → List Order
relaying p now (Relay q) = SendAt (stopped (now + p.turn)) q ∷ []
relaying p now Keep = []
relaying p now Ignore = []

-- received schedule while scanning. An opening says how long the round is; a closing is its last slot
abbrev pub last_by : Schedule → ℕ → ℕ
last_by x j = if x.gap == 0 then last_slot x.plan else j

abbrev pub part_by : Schedule → Part
part_by x = if x.gap == 0 then Opening else Closing

abbrev pub joins : Setup → Node → ℕ → List ℕ → Schedule → Stepped
joins s n now p x =
    let j = slot_of p in
    let flood = listening Kind.TheVariants.Schedule j s.sends in
    let z = zero_from s.profile now p in
    record {
      node = record n { zero = z; stage = InWindow j (record { part = part_by x; last = last_by x j; flood = after_heard flood p; reference = Some z }) };
      orders = relaying s.profile now (reply_to flood p) ++ AlarmAt (closes_at s.profile z j) ∷ [];
      delivery = None;
    }

abbrev pub scanner_hears : Setup → Node → ℕ → List ℕ → Option Message → Option Stepped
scanner_hears s n now p None = None
scanner_hears s n now p (Some (DataOf d)) = None
scanner_hears s n now p (Some (RequestOf a)) = None
scanner_hears s n now p (Some (ScheduleOf x)) = if x.plan.rank == rank_of n.core.tune then Some (joins s n now p x) else None

-- received in a window. A schedule of another rank is ignored
abbrev pub is_foreign : ℕ → Option Message → Bool
is_foreign rank None = false
is_foreign rank (Some (DataOf d)) = false
is_foreign rank (Some (RequestOf a)) = false
is_foreign rank (Some (ScheduleOf x)) = not (x.plan.rank == rank)

abbrev pub is_ignored : Reply → Bool
is_ignored (Relay q) = false
is_ignored Keep = false
is_ignored Ignore = true

-- the first schedule that is accepted gives the reference; it is used from the window's closing on
abbrev pub reply_by : ℕ → Window → List ℕ → Reply
reply_by rank w p = if is_foreign rank (message_of p) then Ignore else reply_to w.flood p

abbrev pub flood_by : ℕ → Window → List ℕ → FloodState
flood_by rank w p = if is_foreign rank (message_of p) then w.flood else after_heard w.flood p

abbrev pub reference_by : Numbers → ℕ → ℕ → Window → List ℕ → Option ℕ
reference_by p rank now w q =
    if is_schedule_part w.part && not (is_ignored (reply_by rank w q)) && is_none (accepted_of w.flood) && not w.flood.initiated
    then Some (zero_from p now q)
    else w.reference

abbrev pub hearing : Numbers → ℕ → ℕ → Window → List ℕ → Window
hearing p rank now w q = record w { flood = flood_by rank w q; reference = reference_by p rank now w q }

abbrev pub window_hears : Setup → Node → ℕ → ℕ → Window → List ℕ → Stepped
window_hears s n now j w p =
    let rank = rank_of n.core.tune in
    record {
      node = record n { stage = InWindow j (hearing s.profile rank now w p) };
      orders = relaying s.profile now (reply_by rank w p);
      delivery = None;
    }

-- sent, where the window's flood waits for it
abbrev pub sends : Node → ℕ → Window → Stepped
sends n j w = record {
  node = record n { stage = InWindow j (record w { flood = after_sent w.flood }) };
  orders = if w.flood.sent + 1 == w.flood.limit then Off ∷ [] else [];
  delivery = None;
}

-- window closes, and round ends in the last slot. An accepted schedule's reference is used from now on
abbrev pub zero_by : Numbers → ℕ → Option ℕ → Option Message → ℕ
zero_by p z None m = z
zero_by p z (Some reference) None = z
zero_by p z (Some reference) (Some (DataOf d)) = z
zero_by p z (Some reference) (Some (RequestOf a)) = z
zero_by p z (Some reference) (Some (ScheduleOf x)) = stopped (reference + x.gap * p.frame)

-- at the end of a round a host goes on to its next
abbrev pub zero_next : Numbers → ℕ → Tune → ℕ
zero_next p z (Host r due) = zero_of_host p due
zero_next p z (Hold r due) = z
zero_next p z (Scan r waited) = z

abbrev pub row_to_next_slot : Setup → ℕ → ℕ → Node → Option Delivery → Stepped
row_to_next_slot s j last n delivery =
    let more = nat_lt j last in
    record {
      node = record n { stage = if more then AwaitSlot (j + 1) else AwaitFrame; zero = if more then n.zero else zero_next s.profile n.zero n.core.tune };
      orders = Off ∷ AlarmAt (if more then opens_at s.profile n.zero (j + 1) else frame_alarm s.profile n.frame) ∷ [];
      delivery = delivery;
    }

-- what a window's flood accepted
abbrev pub accepted_in : Window → Option Message
accepted_in w = option_and_then (λ a. message_of a.0) (accepted_of w.flood)

abbrev pub window_closes : Setup → Node → ℕ → Window → Stepped
window_closes s n j w =
    let c = closed_slot s n.frame w.part w.flood.initiated n.core (accepted_in w) in
    row_to_next_slot s j w.last (record n { core = c.core; zero = zero_by s.profile n.zero w.reference (accepted_in w) })
    (option_map (delivery_of s.id n.frame (rank_of n.core.tune) j) c.delivered)

-- the row that fits, by the place and the event; none where no row fits
abbrev pub at_alarm : Setup → Node → Stage → Option Stepped
at_alarm s n Idle = None
at_alarm s n Scanning = Some (frame_alarms s n)
at_alarm s n AwaitFrame = Some (frame_alarms s n)
at_alarm s n (AwaitSlot j) = Some (window_opens s n j)
at_alarm s n (InWindow j w) = Some (window_closes s n j w)

abbrev pub row_in_window : Setup → Node → ℕ → List ℕ → Stage → Option Stepped
row_in_window s n now p (InWindow j w) = Some (window_hears s n now j w p)
row_in_window s n now p Idle = None
row_in_window s n now p Scanning = None
row_in_window s n now p AwaitFrame = None
row_in_window s n now p (AwaitSlot j) = None

abbrev pub at_heard : Setup → Node → ℕ → List ℕ → Stage → Option Stepped
at_heard s n now p Scanning = scanner_hears s n now p (message_of p)
at_heard s n now p (InWindow j w) = row_in_window s n now p (InWindow j w)
at_heard s n now p Idle = None
at_heard s n now p AwaitFrame = None
at_heard s n now p (AwaitSlot j) = None

abbrev pub at_sent : Node → Stage → Option Stepped
at_sent n (InWindow j w) = if w.flood.waiting then Some (sends n j w) else None
at_sent n Idle = None
at_sent n Scanning = None
at_sent n AwaitFrame = None
at_sent n (AwaitSlot j) = None

abbrev pub row : Setup → Node → ℕ → Event → Option Stepped
row s n now Boot = Some (boots s n now)
row s n now Alarm = at_alarm s n n.stage
row s n now (Heard p) = at_heard s n now p n.stage
row s n now Sent = at_sent n n.stage

-- the node after the row that fits, if one does
abbrev pub node_after : Node → Option Stepped → Node
node_after n None = n
node_after n (Some r) = r.node

abbrev pub orders_by : Option Stepped → List Order
orders_by None = []
orders_by (Some r) = r.orders
