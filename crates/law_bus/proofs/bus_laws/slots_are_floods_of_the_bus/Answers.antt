use Rattle.law_bus.proofs.BusLaws.{slots_are_floods}
use Rattle.law_bus.proofs.bus_laws.slots_are_floods_of_the_bus.Goals as goal

pub returns : goal.returns
returns c = slots_are_floods
