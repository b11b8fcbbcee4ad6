use Rattle.time_reference.proofs.Points.{opens_before_starts}
use Rattle.time_reference.proofs.round_laws.windows_open_before_starts.Goals as goal

pub returns : goal.returns
returns c = opens_before_starts
