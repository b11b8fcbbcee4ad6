use Rattle.time_reference.proofs.Ages.{two_legs}
use Rattle.time_reference.proofs.clock_laws.two_legs.Goals as goal

pub returns : goal.returns
returns c = two_legs
