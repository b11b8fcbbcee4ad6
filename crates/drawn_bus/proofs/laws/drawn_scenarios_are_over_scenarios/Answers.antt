use Rattle.drawn_bus.proofs.DrawnOver.{drawn_in_order, drawn_over}
use Rattle.drawn_bus.proofs.laws.drawn_scenarios_are_over_scenarios.Goals as goal

pub returns-clause-over : goal.returns-clause-over
returns-clause-over c = drawn_over

pub returns-clause-ordered : goal.returns-clause-ordered
returns-clause-ordered c = drawn_in_order
