use Rattle.law_trails.proofs.UnstoppedTimes.{slots_are_sums}
use Rattle.law_trails.proofs.local_times.times_of_slots_are_sums.Goals as goal

pub returns : goal.returns
returns c = slots_are_sums
