-- The account of a valid run begins with the costs of the bus.
use Rattle.std.specs.Prelude.{◌≡◌, ℕ, List, true}
use Rattle.scenario_text.specs.ScenarioParts.{ScenarioParts}
use Rattle.scenario_text.specs.FloodParts.{knows}
use Rattle.air_log.specs.declared.entry.Entry.{Entry}
use Rattle.air_log.specs.declared.energy.Energy.{Energy}
use Rattle.air_log.specs.Energies.{energy_of}
use Rattle.bus_terms.specs.Bus.{Cost, bus_cost}
use Rattle.law_terms.specs.LawfulRuns.{IsLawfulRun}

-- the numbers of a node's account that the bus has too: all but how long its radio was on
abbrev pub cost_in : Energy → Cost
cost_in e = record { sent = e.sent; windows = e.windows; scanned = e.scanned }

abbrev pub EnergyLaw : Type 0
EnergyLaw = (s : ScenarioParts) (clocks : ℕ → ℕ → ℕ) (air : List Entry) → IsLawfulRun s clocks air
    → (v : ℕ) → knows s.nodes v ≡ true → cost_in (energy_of s clocks air v) ≡ bus_cost s v
