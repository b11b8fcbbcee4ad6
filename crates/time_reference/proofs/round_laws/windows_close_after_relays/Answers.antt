use Rattle.time_reference.proofs.Points.{closes_after_relays}
use Rattle.time_reference.proofs.round_laws.windows_close_after_relays.Goals as goal

pub returns : goal.returns
returns c = closes_after_relays
