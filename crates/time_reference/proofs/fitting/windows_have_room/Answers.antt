use Rattle.time_reference.proofs.BudgetRoom.{window_room}
use Rattle.time_reference.proofs.fitting.windows_have_room.Goals as goal

pub returns : goal.returns
returns c = window_room
