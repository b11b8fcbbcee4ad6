use Rattle.air_log.proofs.NextDue.{is_ahead, until_next}
use Rattle.air_log.proofs.trail_laws.nothing_happens_until_the_next_is_due.Goals as goal

pub returns : goal.returns
returns c = record { ahead = is_ahead; next = until_next }
