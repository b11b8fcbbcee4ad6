use Rattle.time_reference.proofs.Points.{good_later}
use Rattle.time_reference.proofs.round_laws.good_stays_good.Goals as goal

pub returns : goal.returns
returns c = good_later
