use Rattle.law_trails.proofs.LifeSteps.{hosts_are_quiet}
use Rattle.law_trails.proofs.QuietPeriods.{quiet_period}
use Rattle.law_trails.proofs.LifeLaws.{one_plan}
use Rattle.law_trails.proofs.host_laws.hosts_plan_apart.Goals as goal

pub returns : goal.returns
returns c = record { quiet = hosts_are_quiet; one = one_plan; silent = quiet_period }
