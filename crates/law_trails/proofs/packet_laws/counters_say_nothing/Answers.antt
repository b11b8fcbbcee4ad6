use Rattle.law_trails.proofs.OtherCounters.{same_again, relay_same, bodies_same}
use Rattle.law_trails.proofs.packet_laws.counters_say_nothing.Goals as goal

pub returns : goal.returns
returns c = record { again = same_again; relay = relay_same; bodies = bodies_same }
