-- What an event keeps of a node, and that its orders are timely.
use Rattle.std.proofs.Common.{◌≡◌, ℕ, ◌^◌, ◌<◌, Bool, true, false, Some, None, Option, sym, ap, subst, ◌∙◌, All}
use Rattle.std.proofs.lemmas.List.Elements.{All-nil}
use Rattle.lwb_base.specs.declared.event.Event.{Event}
use Rattle.lwb_base.specs.Orders.{Told}
use Rattle.bus_rules.specs.Cores.{Setup}
use Rattle.node_core.specs.Nodes.{Node, NodeState}
use Rattle.node_core.specs.Rows.{Stepped, row}
use Rattle.node_core.specs.Rows.{orders_by}
use Rattle.node_core.specs.Standing.{GoesThroughRow}
use Rattle.air_log.specs.DeviceStates.{IsTimely, row_at}
use Rattle.air_log.specs.DeviceShapes.{power_with}
use Rattle.node_core.proofs.KeptBoots.{KeepsBoot}
use Rattle.air_log.proofs.TimelyOrders.{IsOfTime, timely}

-- a node that went through a row has the boot that it had
pub followed_boot : (old new : NodeState) (before after : Told) (o : Option Stepped) → KeepsBoot old.node o → GoesThroughRow old new before after o
    → new.node.core.boot ≡ old.node.core.boot
followed_boot old new before after None kept follows = ap (λ (n : NodeState). n.node.core.boot) follows.0
followed_boot old new before after (Some r) kept follows = ap (λ (n : NodeState). n.node.core.boot) follows.0 ∙ kept

-- and a zero that is not past the end of times
pub followed_zero : (old new : NodeState) (before after : Told) (o : Option Stepped) → old.node.zero < 2 ^ 47 → IsOfTime o
    → GoesThroughRow old new before after o → new.node.zero < 2 ^ 47
followed_zero old new before after None small of_time follows = subst (λ (n : NodeState). n.node.zero < 2 ^ 47) (sym follows.0) small
followed_zero old new before after (Some r) small of_time follows = subst (λ (n : NodeState). n.node.zero < 2 ^ 47) (sym follows.0) of_time.0

-- the orders of a row, or of none
orders_of_time : (o : Option Stepped) → IsOfTime o → All IsTimely (orders_by o)
orders_of_time None of_time = All-nil IsTimely
orders_of_time (Some r) of_time = of_time.1

pub timely_orders : (clock : ℕ → ℕ) (t : ℕ) (e : Event) (s : Setup) (on : Bool) (boots : ℕ) (n : Node) → n.zero < 2 ^ 47 → clock t < 2 ^ 47
    → All IsTimely (orders_by (row_at clock t e s (power_with on boots n)))
timely_orders clock t e s false boots n small early = All-nil IsTimely
timely_orders clock t e s true boots n small early = orders_of_time (row s n (clock t) e) (timely s n small (clock t) e early)
