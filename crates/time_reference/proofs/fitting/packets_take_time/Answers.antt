use Rattle.time_reference.proofs.BudgetRoom.{packets_grow, packets_last}
use Rattle.time_reference.proofs.fitting.packets_take_time.Goals as goal

pub returns : goal.returns
returns c = record { grows = packets_grow; least = packets_last }
