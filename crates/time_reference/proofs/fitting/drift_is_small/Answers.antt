use Rattle.time_reference.proofs.BudgetRoom.{drift_is_small}
use Rattle.time_reference.proofs.fitting.drift_is_small.Goals as goal

pub returns : goal.returns
returns c = drift_is_small
