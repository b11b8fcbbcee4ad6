use Rattle.time_reference.proofs.BudgetRoom.{clock_room}
use Rattle.time_reference.proofs.fitting.clock_error_covers_drift.Goals as goal

pub returns : goal.returns
returns c = clock_room
