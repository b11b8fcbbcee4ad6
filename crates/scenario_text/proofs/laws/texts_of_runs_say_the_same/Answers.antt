use Rattle.scenario_text.proofs.Horizons.{said_to_run, run_is_scenario}
use Rattle.scenario_text.proofs.laws.texts_of_runs_say_the_same.Goals as goal

pub returns-clause-said : goal.returns-clause-said
returns-clause-said c = said_to_run

pub returns-clause-scenario : goal.returns-clause-scenario
returns-clause-scenario c = run_is_scenario
