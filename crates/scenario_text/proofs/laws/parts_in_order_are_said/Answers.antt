use Rattle.scenario_text.proofs.OrderedParts.{said_in_order, in_order_said}
use Rattle.scenario_text.proofs.laws.parts_in_order_are_said.Goals as goal

pub returns-clause-said : goal.returns-clause-said
returns-clause-said c = said_in_order

pub returns-clause-alone : goal.returns-clause-alone
returns-clause-alone c = in_order_said
