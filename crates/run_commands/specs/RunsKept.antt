-- Internal: what is kept of the last run.
use Rattle.std.specs.Prelude.{◌≡◌, List}
use Rattle.scenario_text.specs.ScenarioParts.{ScenarioParts}
use Rattle.scenario_clocks.specs.StatedClocks.{scenario_clock}
use Rattle.bus_terms.specs.Bus.{bus_deliveries, bus_drops}
use Rattle.air_log.specs.declared.entry.Entry.{Entry}
use Rattle.air_log.specs.NodeCharges.{charges_in}
use Rattle.host_return.specs.Probes.{idle_of}
use Rattle.run_commands.specs.declared.return_answer.Worlds.{Worlds}

-- the last run was one of this scenario, with this log, over the clocks that the scenario states
pub record KeepsRun (w : Worlds) (s : ScenarioParts) (air : List Entry) : Type 0 where
  pub deliveries : w.deliveries.items ≡ bus_deliveries s
  pub drops : w.drops.items ≡ bus_drops s
  pub charges : w.charges.items ≡ charges_in s (scenario_clock s) air
  pub idle : w.idle.items ≡ idle_of s air
