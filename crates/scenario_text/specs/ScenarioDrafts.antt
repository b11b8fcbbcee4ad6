-- Internal: what is true of each draft of a scenario.
use Rattle.std.specs.Prelude.{◌≤◌}
use Rattle.scenario_text.specs.FloodDrafts.{IsNetwork}
use Rattle.scenario_text.specs.ScenarioGrammar.{Scenario}

pub record IsScenarioDraft (d : Scenario) : Type 0 where
  pub network : IsNetwork d.network
  pub frame : d.profile.frame ≤ 320000000
