use Rattle.time_reference.proofs.Points.{closes_before_next_closes}
use Rattle.time_reference.proofs.round_laws.closings_are_ordered.Goals as goal

pub returns : goal.returns
returns c = closes_before_next_closes
