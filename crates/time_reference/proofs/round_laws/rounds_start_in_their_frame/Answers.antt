use Rattle.time_reference.proofs.Points.{after_start}
use Rattle.time_reference.proofs.round_laws.rounds_start_in_their_frame.Goals as goal

pub returns : goal.returns
returns c = after_start
