use Rattle.law_windows.proofs.WorkedCharges.{asking_costs, late_costs, late_rows, listening_costs, listening_rows}
use Rattle.law_windows.proofs.worked_charges.windows_of_a_worked_round_cost.Goals as goal

pub returns : goal.returns
returns c = record { asking = asking_costs; listening = listening_costs; late = late_costs; rows = (listening_rows, late_rows) }
