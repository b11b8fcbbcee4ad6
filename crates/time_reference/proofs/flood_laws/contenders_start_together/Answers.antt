use Rattle.time_reference.proofs.Steps.{contenders}
use Rattle.time_reference.proofs.flood_laws.contenders_start_together.Goals as goal

pub returns : goal.returns
returns c = contenders
