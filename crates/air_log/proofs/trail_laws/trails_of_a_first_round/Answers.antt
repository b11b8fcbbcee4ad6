use Rattle.air_log.proofs.FirstRound.{host_trail, other_trail}
use Rattle.air_log.proofs.trail_laws.trails_of_a_first_round.Goals as goal

pub returns : goal.returns
returns c = record { host = host_trail; other = other_trail }
