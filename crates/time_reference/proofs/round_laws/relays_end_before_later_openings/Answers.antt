use Rattle.time_reference.proofs.Points.{relays_before_next_opens}
use Rattle.time_reference.proofs.round_laws.relays_end_before_later_openings.Goals as goal

pub returns : goal.returns
returns c = relays_before_next_opens
