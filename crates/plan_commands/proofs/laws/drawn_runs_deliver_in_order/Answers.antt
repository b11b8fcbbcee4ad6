use Rattle.drawn_bus.proofs.DrawnOver.{drawn_in_order, drawn_over}
use Rattle.network_text.proofs.SaidNetworks.{network_says}
use Rattle.plan_commands.proofs.laws.drawn_runs_deliver_in_order.Goals as goal

pub returns-clause-over : goal.returns-clause-over
returns-clause-over c = λ bytes s ratios seed is. drawn_over s ratios seed (network_says bytes s ratios is)

pub returns-clause-ordered : goal.returns-clause-ordered
returns-clause-ordered c = λ bytes s ratios seed is. drawn_in_order s ratios seed (network_says bytes s ratios is)
