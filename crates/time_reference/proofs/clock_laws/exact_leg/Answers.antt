use Rattle.time_reference.proofs.Ages.{exact_leg}
use Rattle.time_reference.proofs.clock_laws.exact_leg.Goals as goal

pub returns : goal.returns
returns c = exact_leg
