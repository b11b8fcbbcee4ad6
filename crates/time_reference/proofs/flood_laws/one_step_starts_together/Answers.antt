use Rattle.time_reference.proofs.Steps.{together}
use Rattle.time_reference.proofs.flood_laws.one_step_starts_together.Goals as goal

pub returns : goal.returns
returns c = together
