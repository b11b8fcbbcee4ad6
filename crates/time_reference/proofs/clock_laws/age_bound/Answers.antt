use Rattle.time_reference.proofs.Ages.{age}
use Rattle.time_reference.proofs.clock_laws.age_bound.Goals as goal

pub returns : goal.returns
returns c = age
