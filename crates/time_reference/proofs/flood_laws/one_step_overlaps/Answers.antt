use Rattle.time_reference.proofs.Steps.{one_step}
use Rattle.time_reference.proofs.flood_laws.one_step_overlaps.Goals as goal

pub returns : goal.returns
returns c = one_step
