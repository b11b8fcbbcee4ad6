use Rattle.std.proofs.Common.{◌≡◌, ◌+◌, ◌<◌, ℕ, length, take, count_by, get_or}
use Rattle.deadline_plan.specs.Load.{has_job}
use Rattle.deadline_plan.proofs.load.count_ends.Given as goal

abbrev pub invariant-loop-stream : goal.invariant-loop-stream
invariant-loop-stream l = (a : ℕ) → a < length l.fn.released → get_or l.released a 0 ≡ get_or l.fn.released a 0 + count_by (λ s. has_job s a l.until)
    (take l.stream-index l.streams)
