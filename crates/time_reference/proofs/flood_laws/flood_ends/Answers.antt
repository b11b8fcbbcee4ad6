use Rattle.time_reference.proofs.Steps.{flood_end}
use Rattle.time_reference.proofs.flood_laws.flood_ends.Goals as goal

pub returns : goal.returns
returns c = flood_end
