use Rattle.time_reference.proofs.BudgetRoom.{window_order}
use Rattle.time_reference.proofs.fitting.zeros_cover_drift.Goals as goal

pub returns : goal.returns
returns c = λ p b fits. (window_order p b fits).0
