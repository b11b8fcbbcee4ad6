use Rattle.law_bus.proofs.BusLaws.{over_any_clocks}
use Rattle.law_bus.proofs.bus_laws.clocks_change_nothing_of_the_bus.Goals as goal

pub returns : goal.returns
returns c = over_any_clocks
