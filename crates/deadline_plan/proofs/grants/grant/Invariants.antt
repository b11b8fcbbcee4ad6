use Rattle.std.proofs.Common.{◌≡◌, ◌++◌, ◌-◌, length, drop}
use Rattle.deadline_plan.specs.Grants.{granted_jobs, jobs_left}
use Rattle.deadline_plan.proofs.grants.grant.Given as goal

abbrev pub invariant-loop-job : goal.invariant-loop-job
invariant-loop-job l = record {
  granted : granted_jobs l.slots l.frame l.waiting ≡ l.granted.items ++ granted_jobs (l.slots - length l.granted.items) l.frame (drop l.job-index l.waiting);
  left : jobs_left l.slots l.frame l.waiting ≡ l.left.items ++ jobs_left (l.slots - length l.granted.items) l.frame (drop l.job-index l.waiting);
}
