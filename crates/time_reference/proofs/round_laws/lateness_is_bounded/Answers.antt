use Rattle.time_reference.proofs.Points.{lateness}
use Rattle.time_reference.proofs.round_laws.lateness_is_bounded.Goals as goal

pub returns : goal.returns
returns c = lateness
