-- What is fixed for a node stays in each step.
use Rattle.std.proofs.Common.{◌≡◌, Option, Some, None, ap}
use Rattle.lwb_base.specs.Orders.{Told}
use Rattle.node_core.specs.Nodes.{NodeState}
use Rattle.node_core.specs.Rows.{Stepped}
use Rattle.node_core.specs.Standing.{GoesThroughRow}

pub setup_stays : (old new : NodeState) (before after : Told) (row : Option Stepped) → GoesThroughRow old new before after row → new.setup ≡ old.setup
setup_stays old new before after None is = ap (λ (s : NodeState). s.setup) is.0
setup_stays old new before after (Some r) is = ap (λ (s : NodeState). s.setup) is.0
