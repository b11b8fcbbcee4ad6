-- What an event brings to a node and a row leaves, in its ranges.
use Rattle.std.specs.Prelude.{ℕ, List, Some, None, ⊤}
use Rattle.std.specs.declared.option.Option.{Option}
use Rattle.std.specs.List.{AllByRecursion}
use Rattle.lwb_base.specs.declared.event.Event.{Event}
use Rattle.lwb_base.specs.declared.event.Event.TheVariants.{Boot, Alarm, Heard, Sent}
use Rattle.lwb_base.specs.declared.order.Order.{Order}
use Rattle.lwb_base.specs.declared.order.Order.TheVariants.{Listen, Off, SendAt, Alarm as AlarmAt}
use Rattle.bus_rules.specs.Cores.{Setup}
use Rattle.node_core.specs.Rows.{Stepped}
use Rattle.law_trails.specs.NodeRanges.{IsNodeInRange}

-- H holds of a packet that is received
abbrev pub HoldsOfHeard : (List ℕ → Type 0) → Event → Type 0
HoldsOfHeard H Boot = ⊤
HoldsOfHeard H Alarm = ⊤
HoldsOfHeard H (Heard q) = H q
HoldsOfHeard H Sent = ⊤

-- Q holds of each packet that is ordered
abbrev pub HoldsOfOrdered : (List ℕ → Type 0) → Order → Type 0
HoldsOfOrdered Q (Listen rank) = ⊤
HoldsOfOrdered Q Off = ⊤
HoldsOfOrdered Q (SendAt local q) = Q q
HoldsOfOrdered Q (AlarmAt local) = ⊤

abbrev pub AreOrders : (List ℕ → Type 0) → List Order → Type 0
AreOrders Q os = AllByRecursion (HoldsOfOrdered Q) os

-- what a row leaves, if one fits
abbrev pub IsStepped : (List ℕ → Type 0) → Setup → Option Stepped → Type 0
IsStepped Q s None = ⊤
IsStepped Q s (Some r) = IsNodeInRange s r.node × AreOrders Q r.orders
