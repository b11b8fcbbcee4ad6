use Rattle.time_reference.proofs.BudgetRoom.{window_order}
use Rattle.time_reference.proofs.fitting.times_of_a_window_are_ordered.Goals as goal

pub returns : goal.returns
returns c = window_order
