use Rattle.std.proofs.Common.{arith}
use Rattle.law_trails.proofs.UnstoppedTimes.{host_sum, alarm_sum, boots_in_frame}
use Rattle.law_trails.proofs.local_times.times_of_frames_are_sums.Goals as goal

pub returns : goal.returns
returns c = record { zero = host_sum; alarm = alarm_sum; next = λ f early. omega arith; boot = boots_in_frame }
