use Rattle.scenario_maker.proofs.MadeInOrder.{is_said, is_said_to_run}
use Rattle.scenario_maker.proofs.laws.made_scenarios_are_accepted.Goals as goal

pub returns-clause-said : goal.returns-clause-said
returns-clause-said c = is_said

pub returns-clause-run : goal.returns-clause-run
returns-clause-run c = is_said_to_run
