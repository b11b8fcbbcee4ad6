-- Internal: the runs of a scenario, with one return more each time.
use Rattle.std.specs.Prelude.{◌≡◌, ◌≤◌, ◌++◌, ◌∷◌, [], length, reverse}
use Rattle.scenario_text.specs.AddedLines.{IsWithScript, HasRoom}
use Rattle.scenario_text.specs.ScenarioGrammar.{IsScenario}
use Rattle.scenario_text.specs.ScenarioParts.{ScenarioParts}
use Rattle.scenario_clocks.specs.StatedClocks.{scenario_clock}
use Rattle.air_log.specs.Lawful.{Lawful}
use Rattle.host_return.specs.Candidates.{IsNextReturn}
use Rattle.host_return.specs.Probes.{idle_of}
use Rattle.host_return.specs.Restarts.{lines_of_going_back}
use Rattle.host_return.specs.Returned.{Becomes}
use Rattle.host_return.specs.declared.follow.Course.{Course}
use Rattle.host_return.specs.declared.returned.Return.{Return}

-- the returns so far, the scenario with their lines, a run of it, and where nodes are idle in that run
pub record IsFollowed (read : ScenarioParts) (c : Course) : Type 0 where
  pub becomes : Becomes read (reverse c.returns.items) c.scenario
  pub few : length c.returns.items ≤ 16
  pub lawful : Lawful c.scenario (scenario_clock c.scenario) c.air
  pub frames : read.frames ≡ c.scenario.frames
  pub said : IsScenario c.scenario
  pub idle : c.idle.items ≡ idle_of c.scenario c.air

-- one return more has been taken
pub record IsOneMore (read : ScenarioParts) (old new : Course) : Type 0 where
  pub last : Return
  pub returns : new.returns.items ≡ old.returns.items ++ last ∷ []
  pub next : IsNextReturn read old.scenario old.air old.returns.items last
  pub added : IsWithScript old.scenario (lines_of_going_back old.scenario old.air last) new.scenario
  pub room : HasRoom new.scenario
  pub said : IsScenario new.scenario
  pub lawful : Lawful new.scenario (scenario_clock new.scenario) new.air
  pub idle : new.idle.items ≡ idle_of new.scenario new.air
