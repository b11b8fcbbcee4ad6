use Rattle.time_reference.proofs.Steps.{steps_in_order}
use Rattle.time_reference.proofs.flood_laws.steps_are_apart.Goals as goal

pub returns : goal.returns
returns c = steps_in_order
