use Rattle.time_reference.proofs.BudgetRoom.{ages_end}
use Rattle.time_reference.proofs.fitting.ages_end_in_range.Goals as goal

pub returns : goal.returns
returns c = ages_end
