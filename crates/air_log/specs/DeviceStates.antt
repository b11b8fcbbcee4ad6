-- A device as code keeps it, and what it makes known of itself step by step.
use Rattle.std.specs.Prelude.{◌≡◌, ℕ, ◌^◌, ◌<◌, ◌-◌, List, [], ◌∷◌, ◌++◌, Bool, false, ◌==◌, Some, None, option_to_list, ⊤}
use Rattle.std.specs.Prelude.{length, slice_get}
use Rattle.std.specs.declared.option.Option.{Option}
use Rattle.std.specs.Option.{option_map}
use Rattle.lwb_base.specs.declared.limits.TheConstants.{MOST_BOOTS}
use Rattle.lwb_base.specs.declared.event.Event.{Event}
use Rattle.lwb_base.specs.declared.event.Event.TheVariants.{Sent}
use Rattle.lwb_base.specs.declared.order.Order.{Order}
use Rattle.lwb_base.specs.declared.order.Order.TheVariants.{Listen, Off, SendAt, Alarm}
use Rattle.radio_model.specs.declared.sending.Sending.{Sending}
use Rattle.radio_model.specs.OnAir.{Tuning}
use Rattle.bus_rules.specs.declared.delivery.Delivery.{Delivery}
use Rattle.bus_rules.specs.Cores.{Setup}
use Rattle.node_core.specs.Nodes.{Node, NodeState}
use Rattle.node_core.specs.Rows.{Stepped, row}
use Rattle.node_core.specs.Rows.{node_after}
use Rattle.air_log.specs.declared.entry.TunedEntry.{TunedEntry}
use Rattle.air_log.specs.WindowLogs.{windows_after, is_alarm}
use Rattle.air_log.specs.WindowSums.{WindowSum, power_has_window, sent_with, noted}
use Rattle.air_log.specs.declared.settings.Settings.{Settings}
use Rattle.air_log.specs.Devices.{Device, Power, PowerOff, PowerOn, OrderedPacket, Made, delivery_by, event}
use Rattle.air_log.specs.Tunings.{Tunings}

-- core: the node, also where its power is off; channel: that of its radio; busy_until: the tick at which its running transmission
-- ends; delivery: that of the last step; windows: what its windows count so far
pub record DeviceState : Type 0 where
  pub setup : Setup
  pub core : Node
  pub power : Power
  pub channel : Option ℕ
  pub alarm : Option ℕ
  pub ordered : Option OrderedPacket
  pub busy_until : Option ℕ
  pub delivery : Option Delivery
  pub windows : WindowSum

abbrev pub tick_of_ordered : OrderedPacket → ℕ
tick_of_ordered o = o.tick

-- what is set at it
abbrev pub settings_of : DeviceState → Settings
settings_of s = record { channel = s.channel; alarm = s.alarm; sending = option_map tick_of_ordered s.ordered }

abbrev pub sending_end : Sending → ℕ
sending_end x = x.end

-- the running transmission is the last that was made, if one runs
abbrev pub running : Option ℕ → List Sending → Option Sending
running None sent = None
running (Some end) sent = slice_get sent (length sent - 1)

-- it runs until this tick, and if none does, none runs
abbrev pub RunsUntil : Option ℕ → List Sending → Type 0
RunsUntil end sent = option_map sending_end (running end sent) ≡ end

abbrev pub tuning_of : TunedEntry → Tuning
tuning_of e = record { rank = e.rank; node = e.node; start = e.start; end = e.end }

-- the device of a trail, where its tunings are these, and the rest of what it has made is this
abbrev pub whole : DeviceState → Tunings → Made → Device
whole s x made = record {
  power = s.power;
  listening = x.listening;
  alarm = s.alarm;
  ordered = s.ordered;
  sending = running s.busy_until made.sent;
  made = record made { tuned = x.ended };
}

-- the same node with the delivery of the same step and the same windows
pub record IsSameNode (old new : DeviceState) : Type 0 where
  pub setup : new.setup ≡ old.setup
  pub delivery : new.delivery ≡ old.delivery
  pub windows : new.windows ≡ old.windows

-- local times of orders are those at which times stop, or earlier ones
abbrev pub IsTimely : Order → Type 0
IsTimely (Listen rank) = ⊤
IsTimely Off = ⊤
IsTimely (SendAt local packet) = local < 2 ^ 47
IsTimely (Alarm local) = local < 2 ^ 47

-- the row that fits an event at tick t; at a node that is off none does
abbrev pub row_at : (ℕ → ℕ) → ℕ → Event → Setup → Power → Option Stepped
row_at clock t e s (PowerOff boots) = None
row_at clock t e s (PowerOn n) = row s n (clock t) e

abbrev pub row_of : (ℕ → ℕ) → ℕ → Event → DeviceState → Option Stepped
row_of clock t e s = row_at clock t e s.setup s.power

-- the device after a row, but for its orders
abbrev pub state_after_row : DeviceState → Option Stepped → DeviceState
state_after_row s None = s
state_after_row s (Some r) = record s { core = r.node; power = PowerOn r.node; delivery = r.delivery }

-- the device after an event, but for its orders: its delivery is taken, and its windows have counted the event
abbrev pub state_after_event : (ℕ → ℕ) → ℕ → Event → Option Sending → DeviceState → DeviceState
state_after_event clock t e ended s =
    let after = state_after_row s (row_of clock t e s) in
    record after { delivery = None; windows = noted (power_has_window s.power) (power_has_window after.power) (is_alarm e) (sent_with e ended) s.windows }

-- what a row makes: its delivery, and what it is to the windows
abbrev pub made_by : ℕ → Event → Option Sending → Power → Option Stepped → Made → Made
made_by t e ended (PowerOff boots) r made = made
made_by t e ended (PowerOn n) r made = record made {
  deliveries = made.deliveries ++ option_to_list (delivery_by r);
  windows = windows_after t e ended n (node_after n r) n.stage (node_after n r).stage made.windows;
}

-- a transmission that starts
abbrev pub with_sent : Option Sending → Made → Made
with_sent None made = made
with_sent (Some x) made = record made { sent = made.sent ++ x ∷ [] }

-- what runs until a tick ends at this one
abbrev pub ends_now : ℕ → Option ℕ → Bool
ends_now t None = false
ends_now t (Some end) = end == t

-- a transmission that ended at tick t is an event
abbrev pub told_of : (ℕ → ℕ) → Setup → ℕ → Option Sending → Device → Device
told_of clock s t None d = d
told_of clock s t (Some x) d = event clock s t Sent (Some x) d

-- a node that is off may boot once more
abbrev pub CanBoot : Power → Type 0
CanBoot (PowerOff boots) = boots < MOST_BOOTS
CanBoot (PowerOn n) = ⊤

-- the node core of a device
abbrev pub core_in : DeviceState → NodeState
core_in d = record { setup = d.setup; node = d.core; delivery = d.delivery }

-- of a device that is on
abbrev pub IsCoreAt : Node → Power → Type 0
IsCoreAt n (PowerOff boots) = ⊤
IsCoreAt n (PowerOn m) = n ≡ m
