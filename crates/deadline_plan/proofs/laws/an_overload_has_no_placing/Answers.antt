use Rattle.deadline_plan.proofs.Placed.{no_placing}
use Rattle.deadline_plan.proofs.laws.an_overload_has_no_placing.Goals as goal

pub returns : goal.returns
returns c = no_placing
