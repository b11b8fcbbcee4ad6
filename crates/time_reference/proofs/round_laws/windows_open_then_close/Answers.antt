use Rattle.time_reference.proofs.Points.{opens_before_closes, starts_before_closes}
use Rattle.time_reference.proofs.round_laws.windows_open_then_close.Goals as goal

pub returns : goal.returns
returns c = record { opened = opens_before_closes; started = starts_before_closes }
