use Rattle.deadline_plan.proofs.StreamJobs.{counted_once, all_of_numbers}
use Rattle.deadline_plan.proofs.laws.a_stream_has_the_jobs_of_its_numbers.Goals as goal

pub returns : goal.returns
returns c = record { once = counted_once; no_other = all_of_numbers }
