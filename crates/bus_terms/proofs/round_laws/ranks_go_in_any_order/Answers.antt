use Rattle.bus_terms.specs.Bus.{state_at}
use Rattle.bus_terms.proofs.AnyRankOrder.{any_order, deliveries_in_turn}
use Rattle.bus_terms.proofs.round_laws.ranks_go_in_any_order.Goals as goal

pub returns : goal.returns
returns c = record { states = any_order; deliveries = λ s rank f. deliveries_in_turn s f (state_at s f) rank }
