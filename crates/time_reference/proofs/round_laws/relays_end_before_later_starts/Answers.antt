use Rattle.time_reference.proofs.Points.{relays_before_next_starts}
use Rattle.time_reference.proofs.round_laws.relays_end_before_later_starts.Goals as goal

pub returns : goal.returns
returns c = relays_before_next_starts
