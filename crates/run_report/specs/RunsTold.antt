-- A text that tells of a run.
use Rattle.std.specs.Prelude.{◌≡◌, ℕ, List}
use Rattle.scenario_text.specs.ScenarioParts.{ScenarioParts}
use Rattle.scenario_clocks.specs.StatedClocks.{scenario_clock}
use Rattle.bus_rules.specs.declared.delivery.Delivery.{Delivery}
use Rattle.bus_rules.specs.declared.delivery.DropLine.{DropLine}
use Rattle.bus_terms.specs.Bus.{bus_deliveries, bus_drops}
use Rattle.air_log.specs.declared.entry.Entry.{Entry}
use Rattle.air_log.specs.Lawful.{Lawful}
use Rattle.law_bus.specs.BusRuns.{AgreesWithBus}

-- how a run of a scenario over some clocks is given: by what is delivered and lost in it, and by its log
abbrev pub Telling : Type 0
Telling = List Delivery → List DropLine → ScenarioParts → (ℕ → ℕ → ℕ) → List Entry → List ℕ

-- The headline, of the text that tells of a run and of the log of this run. All is over the clocks that the scenario states
pub record IsOfRun (told : Telling) (s : ScenarioParts) (air : List Entry) (text : List ℕ) : Type 0 where
  pub law : Lawful s (scenario_clock s) air
  -- the printed deliveries, and the printed drops, are the ideal single-hop bus's
  pub is : text ≡ told (bus_deliveries s) (bus_drops s) s (scenario_clock s) air
  -- the log is safe: one node at most initiates in a data slot, different steps never overlap, relays of one flood differ only by
  -- counter; and its trails deliver and lose these, received by relay paths, each stream in order and no packet twice
  pub bus : AgreesWithBus s (scenario_clock s) air
