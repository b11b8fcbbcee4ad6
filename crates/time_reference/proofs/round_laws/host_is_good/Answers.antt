use Rattle.time_reference.proofs.Points.{host_good}
use Rattle.time_reference.proofs.round_laws.host_is_good.Goals as goal

pub returns : goal.returns
returns c = host_good
