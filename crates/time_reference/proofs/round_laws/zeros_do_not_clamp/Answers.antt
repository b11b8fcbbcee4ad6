use Rattle.time_reference.proofs.Points.{no_clamp}
use Rattle.time_reference.proofs.round_laws.zeros_do_not_clamp.Goals as goal

pub returns : goal.returns
returns c = no_clamp
