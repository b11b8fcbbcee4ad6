-- The premises of all that follows.
use Rattle.std.specs.Prelude.{◌≡◌, ℕ, true, List}
use Rattle.tick_clock.specs.Clocks.{IsClock}
use Rattle.scenario_text.specs.ScenarioParts.{ScenarioParts}
use Rattle.scenario_text.specs.ScenarioFacts.{IsSoundScenario}
use Rattle.scenario_text.specs.FloodParts.{knows}
use Rattle.air_log.specs.declared.entry.Entry.{Entry}
use Rattle.air_log.specs.Lawful.{Lawful}

-- a sound scenario, clocks of its nodes that keep the drift law, and a valid log
pub record IsLawfulRun (s : ScenarioParts) (clocks : ℕ → ℕ → ℕ) (air : List Entry) : Type 0 where
  pub sound : IsSoundScenario s
  pub drift : (v : ℕ) → knows s.nodes v ≡ true → IsClock (clocks v)
  pub lawful : Lawful s clocks air
