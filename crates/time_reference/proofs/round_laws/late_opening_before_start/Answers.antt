use Rattle.time_reference.proofs.Points.{late_opening}
use Rattle.time_reference.proofs.round_laws.late_opening_before_start.Goals as goal

pub returns : goal.returns
returns c = late_opening
