use Rattle.time_reference.proofs.Rounds.{point_by_age}
use Rattle.time_reference.proofs.round_laws.points_of_a_reference.Goals as goal

pub returns : goal.returns
returns c = point_by_age
