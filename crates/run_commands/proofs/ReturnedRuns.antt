-- A valid log of a scenario that some text says is the log of a run.
use Rattle.std.proofs.Common.{◌≡◌, ℕ, List}
use Rattle.scenario_text.specs.ScenarioGrammar.{IsScenario}
use Rattle.scenario_text.specs.ScenarioParts.{ScenarioParts}
use Rattle.scenario_text.proofs.SoundScenarios.{sound}
use Rattle.scenario_clocks.specs.StatedClocks.{scenario_clock}
use Rattle.scenario_clocks.proofs.StatedDrift.{scenario_clocks_drift}
use Rattle.bus_terms.specs.Bus.{bus_deliveries, bus_drops}
use Rattle.air_log.specs.declared.entry.Entry.{Entry}
use Rattle.air_log.specs.Lawful.{Lawful}
use Rattle.law_bus.proofs.BusRuns.{bus_run}
use Rattle.run_report.specs.RunsTold.{IsOfRun, Telling}

pub returned_run : (s : ScenarioParts) → IsScenario s → (air : List Entry) → Lawful s (scenario_clock s) air → (told : Telling) (text : List ℕ)
    → text ≡ told (bus_deliveries s) (bus_drops s) s (scenario_clock s) air → IsOfRun told s air text
returned_run s said air lawful told text is =
    let bus = bus_run s (scenario_clock s) air (record { sound = sound s said; drift = scenario_clocks_drift s said; lawful = lawful }) in
    record { law = lawful; is = is; bus = bus }
