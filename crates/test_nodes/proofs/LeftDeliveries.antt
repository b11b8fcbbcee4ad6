-- What becomes of a delivery in a step.
use Rattle.std.proofs.Common.{◌≡◌, Option, Some, None, ap}
use Rattle.lwb_base.specs.Orders.{Told}
use Rattle.node_core.specs.Nodes.{NodeState}
use Rattle.node_core.specs.Rows.{Stepped}
use Rattle.test_nodes.specs.Calls.{delivery_after_row}
use Rattle.node_core.specs.Standing.{GoesThroughRow}

pub delivery_follows : (old new : NodeState) (before after : Told) (row : Option Stepped) → GoesThroughRow old new before after row
    → new.delivery ≡ delivery_after_row old.delivery row
delivery_follows old new before after None is = ap (λ (s : NodeState). s.delivery) is.0
delivery_follows old new before after (Some r) is = ap (λ (s : NodeState). s.delivery) is.0
