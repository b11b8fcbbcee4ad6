-- Whole runs of a node: what events at readings and calls of the script leave, one after another.
use Rattle.std.specs.Prelude.{◌<◌, ◌≤◌, ◌^◌, List, [], ◌∷◌, ◌++◌, Some, None, length}
use Rattle.std.specs.declared.option.Option.{Option}
use Rattle.lwb_base.specs.declared.order.Order.{Order}
use Rattle.bus_rules.specs.declared.delivery.Delivery.{Delivery}
use Rattle.bus_rules.specs.Streams.{declared, streams_after_leaving, after_put}
use Rattle.bus_rules.specs.Cores.{Setup}
use Rattle.node_core.specs.Nodes.{Node, rebooted, with_streams}
use Rattle.node_core.specs.Rows.{Stepped, row, node_after, orders_by}
use Rattle.test_nodes.specs.declared.call.Call.{Call}
use Rattle.test_nodes.specs.declared.call.Call.TheVariants.{Step, Declare, Leave, Put, Reboot}
use Rattle.lwb_member.specs.Members.{IsBoot}

abbrev pub after_call : Setup → Node → Call → Node
after_call s n (Step now e) = node_after n (row s n now e)
after_call s n (Declare i interval) = with_streams n (declared i interval n.core.streams)
after_call s n (Leave i) = with_streams n (streams_after_leaving i n.core.streams)
after_call s n (Put i payload) = with_streams n (after_put i payload n.core.streams)
after_call s n (Reboot boot) = rebooted boot

-- the delivery after the row that fits. Where none fits, the one before stays
abbrev pub delivery_after_row : Option Delivery → Option Stepped → Option Delivery
delivery_after_row delivery None = delivery
delivery_after_row delivery (Some r) = r.delivery

abbrev pub delivery_after : Setup → Node → Option Delivery → Call → Option Delivery
delivery_after s n delivery (Step now e) = delivery_after_row delivery (row s n now e)
delivery_after s n delivery (Declare i interval) = delivery
delivery_after s n delivery (Leave i) = delivery
delivery_after s n delivery (Put i payload) = delivery
delivery_after s n delivery (Reboot boot) = None

abbrev pub orders_of : Setup → Node → Call → List Order
orders_of s n (Step now e) = orders_by (row s n now e)
orders_of s n (Declare i interval) = []
orders_of s n (Leave i) = []
orders_of s n (Put i payload) = []
orders_of s n (Reboot boot) = []

-- where the calls leave the node, one after another
abbrev pub after_calls : Setup → Node → List Call → Node
after_calls s n [] = n
after_calls s n (call ∷ calls) = after_calls s (after_call s n call) calls

-- the delivery of the last step whose event fitted a row, unless the node was as new after it
abbrev pub delivery_after_calls : Setup → Node → Option Delivery → List Call → Option Delivery
delivery_after_calls s n delivery [] = delivery
delivery_after_calls s n delivery (call ∷ calls) = delivery_after_calls s (after_call s n call) (delivery_after s n delivery call) calls

-- the orders of each call
abbrev pub orders_of_each : Setup → Node → List Call → List (List Order)
orders_of_each s n [] = []
orders_of_each s n (call ∷ calls) = orders_of s n call ∷ orders_of_each s (after_call s n call) calls

-- all of them
abbrev pub orders_of_all : Setup → Node → List Call → List Order
orders_of_all s n [] = []
orders_of_all s n (call ∷ calls) = orders_of s n call ++ orders_of_all s (after_call s n call) calls

-- what a call asks for: readings are below 2^46, there are four streams, and payloads are those of the profile
abbrev pub IsAllowedCall : Setup → Call → Type 0
IsAllowedCall s (Step now e) = now < 2 ^ 46
IsAllowedCall s (Declare i interval) = (i ≤ 3) × (1 ≤ interval) × (interval ≤ 120)
IsAllowedCall s (Leave i) = i ≤ 3
IsAllowedCall s (Put i payload) = (i ≤ 3) × (length payload ≤ s.profile.payload_max)
IsAllowedCall s (Reboot boot) = IsBoot boot
