use Rattle.time_reference.proofs.BudgetRoom.{contenders_cover_drift}
use Rattle.time_reference.proofs.fitting.contenders_cover_drift.Goals as goal

pub returns : goal.returns
returns c = contenders_cover_drift
