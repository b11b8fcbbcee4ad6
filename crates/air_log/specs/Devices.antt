-- A node with its radio and its alarm: what an event does to it, and what it has made so far.
use Rattle.std.specs.Prelude.{ℕ, List, [], ◌∷◌, ◌++◌, Bool, true, false, ◌==◌, nat_lt}
use Rattle.std.specs.Prelude.{if◌then◌else◌, Some, None, max, option_to_list, option_and_then, fold}
use Rattle.std.specs.declared.option.Option.{Option}
use Rattle.lwb_base.specs.declared.event.Event.{Event}
use Rattle.lwb_base.specs.declared.order.Order.{Order}
use Rattle.lwb_base.specs.declared.order.Order.TheVariants.{Listen, Off, SendAt, Alarm}
use Rattle.tick_clock.specs.Clocks.{due}
use Rattle.radio_model.specs.declared.sending.Sending.{Sending}
use Rattle.radio_model.specs.OnAir.{Tuning, goes_on_with}
use Rattle.bus_rules.specs.declared.delivery.Delivery.{Delivery}
use Rattle.bus_rules.specs.Cores.{Setup}
use Rattle.bus_rules.specs.States.{State, StateOff, StateOn}
use Rattle.node_core.specs.Nodes.{Node}
use Rattle.node_core.specs.Rows.{Stepped, row}
use Rattle.node_core.specs.Rows.{node_after, orders_by}
use Rattle.air_log.specs.WindowLogs.{WindowLog, windows_after}

-- off after this many boots, or on
pub data Power : Type 0 where
  PowerOff : (boots : ℕ) → Power
  PowerOn : (node : Node) → Power

abbrev pub power_is_on : Power → Bool
power_is_on (PowerOff boots) = false
power_is_on (PowerOn n) = true

-- what the bus has of it
abbrev pub state_of_power : Power → State
state_of_power (PowerOff boots) = StateOff boots
state_of_power (PowerOn n) = StateOn n.core

-- whether a node is on, and how often it booted
abbrev pub seen_power : Power → Bool × ℕ
seen_power (PowerOff boots) = (false, boots)
seen_power (PowerOn n) = (true, n.core.boot)

-- the radio is on at the channel of a rank since a tick
pub record Listening : Type 0 where
  pub rank : ℕ
  pub since : ℕ

-- a packet that is to be sent at a tick
pub record OrderedPacket : Type 0 where
  pub tick : ℕ
  pub packet : List ℕ

-- all that a node has made: transmissions and deliveries in their order, tunings that ended and windows with the last first
pub record Made : Type 0 where
  pub sent : List Sending
  pub tuned : List Tuning
  pub deliveries : List Delivery
  pub windows : List WindowLog

-- the node, its radio, its one alarm with the tick, its one ordered transmission, and its transmission that runs
pub record Device : Type 0 where
  pub power : Power
  pub listening : Option Listening
  pub alarm : Option ℕ
  pub ordered : Option OrderedPacket
  pub sending : Option Sending
  pub made : Made

abbrev pub nothing_made : Made
nothing_made = record { sent = []; tuned = []; deliveries = []; windows = [] }

-- before the run
abbrev pub at_rest : Device
at_rest = record { power = PowerOff 0; listening = None; alarm = None; ordered = None; sending = None; made = nothing_made }

-- the radio goes off at t. A tuning that is empty leaves no entry
abbrev pub with_tuning : ℕ → ℕ → Option Listening → List Tuning → List Tuning
with_tuning node t None tunings = tunings
with_tuning node t (Some l) tunings = if nat_lt l.since t then record { rank = l.rank; node = node; start = l.since; end = t } ∷ tunings else tunings

abbrev pub silenced : ℕ → ℕ → Device → Device
silenced node t d = record d { listening = None; made = record (d.made) { tuned = with_tuning node t d.listening d.made.tuned } }

-- the radio goes on at t, with the last tuning or with a new one
abbrev pub tunes : ℕ → ℕ → Device → List Tuning → Device
tunes rank t d [] = record d { listening = Some (record { rank = rank; since = t }) }
tunes rank t d (e ∷ earlier) =
    if goes_on_with e.rank e.end rank t
    then record d { listening = Some (record { rank = rank; since = e.start }); made = record (d.made) { tuned = earlier } }
    else record d { listening = Some (record { rank = rank; since = t }) }

abbrev pub device_after_tuning : ℕ → ℕ → Device → Device
device_after_tuning rank t d = tunes rank t d d.made.tuned

abbrev pub listens_to : ℕ → Option Listening → Bool
listens_to rank None = false
listens_to rank (Some l) = l.rank == rank

-- an order at tick t. Times by the clock are those at which it first reads them, or the present tick if that has passed
abbrev pub obeyed : (ℕ → ℕ) → ℕ → ℕ → Device → Order → Device
obeyed clock node t d (Listen rank) = if listens_to rank d.listening then d else device_after_tuning rank t (silenced node t d)
obeyed clock node t d Off = silenced node t d
obeyed clock node t d (SendAt local packet) = record d { ordered = Some (record { tick = max (due clock local) t; packet = packet }) }
obeyed clock node t d (Alarm local) = record d { alarm = Some (max (due clock local) t) }

abbrev pub delivery_by : Option Stepped → Option Delivery
delivery_by r = option_and_then (λ s. s.delivery) r

-- the row that fits the event, if one does; its orders act at once
abbrev pub moved : ℕ → Event → Option Sending → Device → Node → Option Stepped → Device
moved t e ended d n r = record d {
  power = PowerOn (node_after n r);
  made = record (d.made) {
    deliveries = d.made.deliveries ++ option_to_list (delivery_by r);
    windows = windows_after t e ended n (node_after n r) n.stage (node_after n r).stage d.made.windows;
  };
}

abbrev pub stepped : (ℕ → ℕ) → Setup → ℕ → Event → Option Sending → Device → Node → Device
stepped clock s t e ended d n =
    let r = row s n (clock t) e in
    fold (obeyed clock s.id t) (moved t e ended d n r) (orders_by r)

-- an event at tick t; a Sent comes with the transmission that ended. At a node that is off it has no effect
abbrev pub event_by : (ℕ → ℕ) → Setup → ℕ → Event → Option Sending → Device → Power → Device
event_by clock s t e ended d (PowerOff boots) = d
event_by clock s t e ended d (PowerOn n) = stepped clock s t e ended d n

abbrev pub event : (ℕ → ℕ) → Setup → ℕ → Event → Option Sending → Device → Device
event clock s t e ended d = event_by clock s t e ended d d.power
