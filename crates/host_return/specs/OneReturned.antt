-- What comes of the returns of a scenario does not depend on which of its runs are taken.
use Rattle.std.specs.Prelude.{◌≡◌, IsPermutation}
use Rattle.scenario_text.specs.ScenarioGrammar.{IsScenario}
use Rattle.scenario_text.specs.ScenarioParts.{ScenarioParts}
use Rattle.host_return.specs.Returned.{ReturnedParts, IsReturned}

-- all is the same, but for the order of the entries of the log
pub record SameReturned (x y : ReturnedParts) : Type 0 where
  pub scenario : x.scenario ≡ y.scenario
  pub returns : x.returns ≡ y.returns
  pub air : IsPermutation x.air y.air
  pub counts : x.counts ≡ y.counts

abbrev pub OneReturnedLaw : Type 0
OneReturnedLaw = (read : ScenarioParts) (x y : ReturnedParts) → IsScenario read → IsReturned read x → IsReturned read y → SameReturned x y
