use Rattle.law_bus.proofs.BusCosts.{costs}
use Rattle.law_bus.proofs.cost_laws.costs_are_those_of_the_bus.Goals as goal

pub returns : goal.returns
returns c = costs
