use Rattle.time_reference.proofs.Points.{closes_before_next_starts}
use Rattle.time_reference.proofs.round_laws.windows_close_before_later_starts.Goals as goal

pub returns : goal.returns
returns c = closes_before_next_starts
