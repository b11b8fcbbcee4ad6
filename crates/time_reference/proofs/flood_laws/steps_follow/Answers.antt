use Rattle.time_reference.proofs.Steps.{chain}
use Rattle.time_reference.proofs.flood_laws.steps_follow.Goals as goal

pub returns : goal.returns
returns c = chain
