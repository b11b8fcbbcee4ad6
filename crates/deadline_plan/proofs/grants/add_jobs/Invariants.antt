use Rattle.std.proofs.Common.{◌≡◌, ◌++◌, map, filter, nat_le}
use Rattle.std.specs.List.{range_with_len}
use Rattle.deadline_plan.specs.Jobs.{job}
use Rattle.deadline_plan.proofs.grants.add_jobs.Given as goal

abbrev pub invariant-loop-number : goal.invariant-loop-number
invariant-loop-number l = l.jobs.items ≡ l.fn.jobs.items ++ filter (λ j. nat_le j.end l.frames) (map (job l.stream) (range_with_len 0 l.number))
