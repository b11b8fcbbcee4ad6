use Rattle.law_bus.proofs.BusLaws.{scanned}
use Rattle.law_bus.proofs.bus_laws.scans_are_those_of_the_bus.Goals as goal

pub returns : goal.returns
returns c = scanned
