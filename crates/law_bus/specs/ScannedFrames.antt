-- How often a node scans is how often it does on the bus.
use Rattle.std.specs.Prelude.{◌≡◌, ℕ, List, true}
use Rattle.scenario_text.specs.ScenarioParts.{ScenarioParts}
use Rattle.scenario_text.specs.FloodParts.{knows}
use Rattle.air_log.specs.declared.entry.Entry.{Entry}
use Rattle.air_log.specs.Charges.{scanned_frames}
use Rattle.air_log.specs.Lawful.{heard_by}
use Rattle.bus_terms.specs.Bus.{bus_cost}
use Rattle.law_terms.specs.LawfulRuns.{IsLawfulRun}

abbrev pub ScansLaw : Type 0
ScansLaw = (s : ScenarioParts) (clocks : ℕ → ℕ → ℕ) (air : List Entry) → IsLawfulRun s clocks air
    → (v : ℕ) → knows s.nodes v ≡ true → (bus_cost s v).scanned ≡ scanned_frames s v (clocks v) (heard_by air v)
