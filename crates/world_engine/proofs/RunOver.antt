-- The end of a run: what it leaves when all tunings have ended.
use Rattle.std.proofs.Common.{◌≡◌, ℕ, List, map}
use Rattle.scenario_text.specs.ScenarioParts.{ScenarioParts}
use Rattle.scenario_text.specs.ScenarioFacts.{IsSoundScenario}
use Rattle.event_calendar.specs.Orders.{Due}
use Rattle.air_log.specs.Trails.{run_end}
use Rattle.air_log.specs.Lawful.{FollowsHearing}
use Rattle.air_log.specs.Deliveries.{delivery_comes_before}
use Rattle.lwb_base.specs.Sorting.{in_order}
use Rattle.air_log.specs.DeviceStates.{core_in}
use Rattle.world_engine.specs.Fields.{FieldState}
use Rattle.world_engine.specs.FieldSteps.{IsClosed}
use Rattle.world_engine.specs.Moments.{Before}
use Rattle.world_engine.specs.Running.{IsRunning}
use Rattle.world_engine.specs.Runs.{IsEngineRun, orders_left}
use Rattle.world_engine.specs.Worlds.{core_of}
use Rattle.world_engine.proofs.TrailsGoOn.{AreClocks}
use Rattle.world_engine.proofs.TrailsOver.{trails_over}
use Rattle.world_engine.proofs.DeliveriesOver.{deliveries_over}
use Rattle.world_engine.proofs.DropsOver.{drops_over}
use Rattle.world_engine.proofs.CoresOver.{cores_over}
use Rattle.world_engine.proofs.OrdersOver.{orders_over}

-- where the log follows the rule of reception
pub run_over : (s : ScenarioParts) (clocks : ℕ → ℕ → ℕ) (w : FieldState) (due : List Due) (closed : FieldState) → IsSoundScenario s
    → AreClocks clocks → IsRunning s clocks s.script (run_end s) Before w due → IsClosed (run_end s) w due closed → FollowsHearing s closed.air
    → IsEngineRun s clocks closed.air (in_order delivery_comes_before closed.deliveries) closed.drops (core_of (map core_in closed.devices))
    × (due ≡ orders_left s clocks closed.air)
run_over s clocks w due closed sound drifts running over hearing = (
  record {
    sound = sound;
    drift = λ v known. drifts v;
    lawful = record { trails = trails_over s clocks w due closed running over; hearing = hearing };
    deliveries = deliveries_over s clocks w due closed sound running over;
    drops = drops_over s clocks w due closed running over;
    cores = cores_over s clocks w due closed sound running over;
  },
  orders_over s clocks w due closed running over,
)
