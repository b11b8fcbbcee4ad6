use Rattle.law_one_log.proofs.SameCosts.{one_cost}
use Rattle.law_one_log.proofs.one_log.a_scenario_has_one_cost.Goals as goal

pub returns : goal.returns
returns c = one_cost
