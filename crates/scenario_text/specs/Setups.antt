-- What is fixed for a node of a scenario.
use Rattle.std.specs.Prelude.{ℕ}
use Rattle.bus_rules.specs.Cores.{Setup, setup_for}
use Rattle.scenario_text.specs.ScenarioParts.{ScenarioParts}

abbrev pub setup_of : ScenarioParts → ℕ → Setup
setup_of s v = setup_for s.profile s.hosts s.sends v
