use Rattle.time_reference.proofs.HeardZeros.{gives_zero}
use Rattle.time_reference.proofs.flood_laws.heard_schedules_give_zeros.Goals as goal

pub returns : goal.returns
returns c = gives_zero
