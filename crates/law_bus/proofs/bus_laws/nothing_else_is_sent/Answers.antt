use Rattle.law_bus.proofs.BusLaws.{nothing_else}
use Rattle.law_bus.proofs.bus_laws.nothing_else_is_sent.Goals as goal

pub returns : goal.returns
returns c = nothing_else
