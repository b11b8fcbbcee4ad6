-- What is true of a scenario over other lines than those of its own trace.
use Rattle.scenario_text.specs.ScenarioFacts.{IsSoundScenario}
use Rattle.scenario_text.specs.ScenarioParts.{ScenarioParts}
use Rattle.scenario_text.proofs.SoundScenarios.{sound}
use Rattle.scenario_text.specs.OverLines.{over, IsOverScenario}

pub sound_over : (s : ScenarioParts) (is : IsOverScenario s) → IsSoundScenario (over s is.0)
sound_over s is = sound (over s is.0) is.1
