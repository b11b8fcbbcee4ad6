-- Internal: what a run leaves.
use Rattle.std.specs.Prelude.{◌≡◌}
use Rattle.scenario_text.specs.ScenarioParts.{ScenarioParts}
use Rattle.scenario_clocks.specs.StatedClocks.{scenario_clock}
use Rattle.bus_terms.specs.Bus.{bus_deliveries, bus_drops}
use Rattle.air_log.specs.Idling.{all_idle}
use Rattle.air_log.specs.Lawful.{Lawful}
use Rattle.air_log.specs.NodeCharges.{charges_in}
use Rattle.law_bus.specs.BusRuns.{AgreesWithBus}
use Rattle.world_engine.specs.declared.run_parts.RunParts.{RunParts}

-- a run of this scenario left these, over the clocks that the scenario states
pub record IsLeft (s : ScenarioParts) (run : RunParts) : Type 0 where
  pub lawful : Lawful s (scenario_clock s) run.air
  pub bus : AgreesWithBus s (scenario_clock s) run.air
  pub deliveries : run.deliveries.items ≡ bus_deliveries s
  pub drops : run.drops.items ≡ bus_drops s
  pub charges : run.charges.items ≡ charges_in s (scenario_clock s) run.air
  pub idle : run.idle.items ≡ all_idle s (scenario_clock s) run.air
