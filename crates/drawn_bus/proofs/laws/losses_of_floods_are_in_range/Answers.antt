use Rattle.drawn_bus.proofs.LossesInRange.{bus_fits}
use Rattle.drawn_bus.proofs.laws.losses_of_floods_are_in_range.Goals as goal

pub returns : goal.returns
returns c = bus_fits
