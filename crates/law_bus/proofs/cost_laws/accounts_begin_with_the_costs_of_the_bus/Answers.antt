use Rattle.law_bus.proofs.BusCosts.{energies}
use Rattle.law_bus.proofs.cost_laws.accounts_begin_with_the_costs_of_the_bus.Goals as goal

pub returns : goal.returns
returns c = energies
