use Rattle.law_bus.proofs.SameDeliveries.{any_clocks_law}
use Rattle.law_bus.proofs.run_laws.clocks_do_not_matter.Goals as goal

pub returns : goal.returns
returns c = any_clocks_law
