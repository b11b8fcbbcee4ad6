use Rattle.law_trails.proofs.UnstoppedTimes.{relay_is, relay_near, relay_after, relay_follows}
use Rattle.law_trails.proofs.local_times.relays_begin_after_a_turnaround.Goals as goal

pub returns : goal.returns
returns c = record { tick = relay_is; near = relay_near; after = relay_after; follows = relay_follows }
