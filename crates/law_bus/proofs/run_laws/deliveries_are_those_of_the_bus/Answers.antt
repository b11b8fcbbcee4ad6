use Rattle.law_bus.proofs.SameDeliveries.{deliveries_law, drops_law}
use Rattle.law_bus.proofs.run_laws.deliveries_are_those_of_the_bus.Goals as goal

pub returns : goal.returns
returns c = record { deliveries = deliveries_law; drops = drops_law }
