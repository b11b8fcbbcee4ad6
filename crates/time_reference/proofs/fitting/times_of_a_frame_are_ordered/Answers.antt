use Rattle.time_reference.proofs.BudgetRoom.{frame_order}
use Rattle.time_reference.proofs.fitting.times_of_a_frame_are_ordered.Goals as goal

pub returns : goal.returns
returns c = frame_order
