-- What holds of a world at all times.
use Rattle.std.specs.Prelude.{◌≡◌, ℕ, List, [], Bool, false, length}
use Rattle.scenario_text.specs.ScenarioParts.{ScenarioParts}
use Rattle.bus_rules.specs.declared.delivery.Delivery.{Delivery}
use Rattle.world_engine.specs.Fields.{FieldState}
use Rattle.world_engine.specs.FieldSteps.{IsFirstField}

-- each of the scenario's nodes has a clock, and before the run nothing has happened
pub record IsWorld (s : ScenarioParts) (ran : Bool) (field : FieldState) (made : List Delivery) (clocks : ℕ) : Type 0 where
  pub count : clocks ≡ length s.nodes
  pub first : ran ≡ false → IsFirstField s field × (made ≡ [])
