use Rattle.deadline_plan.proofs.Earliest.{are_kept}
use Rattle.deadline_plan.proofs.laws.earliest_deadline_first_keeps_all.Goals as goal

pub returns : goal.returns
returns c = are_kept
