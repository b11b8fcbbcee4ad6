use Rattle.law_trails.proofs.PlansInRange.{host_plan_is}
use Rattle.law_trails.proofs.trails_in_range.host_plans_can_be_written.Goals as goal

pub returns : goal.returns
returns c = host_plan_is
