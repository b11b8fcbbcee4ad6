use Rattle.time_reference.proofs.Points.{place}
use Rattle.time_reference.proofs.round_laws.place_in_the_frame.Goals as goal

pub returns : goal.returns
returns c = place
