use Rattle.law_bus.proofs.BusLaws.{delivered, dropped}
use Rattle.law_bus.proofs.bus_laws.deliveries_and_drops_are_of_the_bus.Goals as goal

pub returns : goal.returns
returns c = record { deliveries = delivered; drops = dropped }
