-- What a run leaves.
use Rattle.std.specs.Prelude.{◌≡◌, ℕ, List, true}
use Rattle.std.specs.declared.option.Option.{Option}
use Rattle.scenario_text.specs.ScenarioParts.{ScenarioParts}
use Rattle.scenario_text.specs.FloodParts.{knows}
use Rattle.bus_rules.specs.declared.delivery.Delivery.{Delivery}
use Rattle.bus_rules.specs.declared.delivery.DropLine.{DropLine}
use Rattle.bus_terms.specs.Bus.{bus_drops}
use Rattle.node_core.specs.Nodes.{NodeState}
use Rattle.air_log.specs.declared.entry.Entry.{Entry}
use Rattle.air_log.specs.Lawful.{Lawful, trail_in}
use Rattle.air_log.specs.Deliveries.{deliveries_of}
use Rattle.law_bus.specs.BusRuns.{AgreesWithBus}
use Rattle.world_engine.specs.Runs.{IsCoreOf}

-- a log that is valid, the deliveries of its trails and the drops of the bus, and the cores where the trails leave them. The run
-- is the ideal single-hop bus's: no two of its steps meet, and its trails deliver what that does, in order, and received by relay paths
pub record IsRun (s : ScenarioParts) (clocks : ℕ → ℕ → ℕ) (air : List Entry) (made : List Delivery) (lost : List DropLine)
    (core : ℕ → Option NodeState) : Type 0 where
  pub lawful : Lawful s clocks air
  pub deliveries : made ≡ deliveries_of s clocks air
  pub drops : lost ≡ bus_drops s
  pub bus : AgreesWithBus s clocks air
  pub cores : (v : ℕ) → knows s.nodes v ≡ true → IsCoreOf (core v) (trail_in s clocks air v).power
