use Rattle.scenario_clocks.proofs.StatedDrift.{scenario_clocks_drift}
use Rattle.scenario_clocks.proofs.clock_laws.scenario_clocks_keep_the_drift_law.Goals as goal

pub returns : goal.returns
returns c = scenario_clocks_drift
