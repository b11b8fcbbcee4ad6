use Rattle.law_windows.proofs.AllWindows.{together}
use Rattle.law_windows.proofs.WindowsNearCharge.{near_charge_always, near_charge_by_budget}
use Rattle.law_windows.proofs.charge_laws.windows_cost_near_their_charge.Goals as goal

pub returns : goal.returns
returns c = record { near = near_charge_always; budget = near_charge_by_budget; together = together }
