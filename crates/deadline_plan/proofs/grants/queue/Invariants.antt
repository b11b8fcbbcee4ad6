use Rattle.std.proofs.Common.{◌≡◌, take}
use Rattle.deadline_plan.specs.Jobs.{jobs}
use Rattle.deadline_plan.proofs.grants.queue.Given as goal

abbrev pub invariant-loop-stream : goal.invariant-loop-stream
invariant-loop-stream l = l.jobs.items ≡ jobs l.frames (take l.stream-index l.streams)
