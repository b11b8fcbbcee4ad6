-- The account of a run: a line for each node.
use Rattle.std.specs.Prelude.{◌≡◌, ℕ, List, ◌==◌, if◌then◌else◌, Some, None, find}
use Rattle.std.specs.declared.option.Option.{Option}
use Rattle.std.specs.Option.{option_map}
use Rattle.scenario_text.specs.FloodParts.{knows}
use Rattle.scenario_text.specs.ScenarioParts.{ScenarioParts}
use Rattle.scenario_text.specs.declared.lines.NodeLine.{NodeLine}
use Rattle.air_log.specs.declared.entry.Entry.{Entry}
use Rattle.air_log.specs.declared.energy.Energy.{Energy}
use Rattle.energy_account.specs.declared.account.AccountLine.{AccountLine}
use Rattle.air_log.specs.Energies.{energy_of}

abbrev pub energy_in : AccountLine → Energy
energy_in l = l.energy

-- what an account says of node v
abbrev pub line_of : List AccountLine → ℕ → Option Energy
line_of lines v = option_map energy_in (find (λ l. l.node == v) lines)

-- of each node of the scenario it says its energy, and of any other id nothing
abbrev pub IsAccount : ScenarioParts → (ℕ → ℕ → ℕ) → List Entry → List AccountLine → Type 0
IsAccount s clocks air lines = (v : ℕ) → line_of lines v ≡ (if knows s.nodes v then Some (energy_of s clocks air v) else None)

-- the line of a node
abbrev pub line_for : ScenarioParts → (ℕ → ℕ → ℕ) → List Entry → NodeLine → AccountLine
line_for s clocks air n = record { node = n.node; energy = energy_of s clocks air n.node }
