-- The clocks that a text states.
use Rattle.std.specs.Prelude.{ℕ, ℤ, List, [], ◌∷◌, map, filter, ◌==◌, if◌then◌else◌}
use Rattle.tick_clock.specs.Rates.{segment_reading}
use Rattle.scenario_text.specs.FloodParts.{FloodParts}
use Rattle.scenario_text.specs.ScenarioParts.{ScenarioParts}
use Rattle.scenario_text.specs.declared.lines.NodeLine.{NodeLine}
use Rattle.scenario_text.specs.declared.lines.RateLine.{RateLine}

-- from that tick on, that rate
abbrev pub rate_entry_of_line : RateLine → ℕ × ℤ
rate_entry_of_line r = (r.from, r.ppm)

abbrev pub rates_of : List RateLine → ℕ → List (ℕ × ℤ)
rates_of rates v = map rate_entry_of_line (filter (λ r. r.node == v) rates)

-- the clock of node v by its offset and its rates. Where the lines have no such node, it reads the true tick
abbrev pub stated_by : List NodeLine → List RateLine → ℕ → ℕ → ℕ
stated_by [] rates v = λ t. t
stated_by (n ∷ ns) rates v = if n.node == v then segment_reading n.offset (rates_of rates n.node) else stated_by ns rates v

-- of a flood
abbrev pub stated_clock : FloodParts → ℕ → ℕ → ℕ
stated_clock f v = stated_by f.nodes f.rates v

-- of a scenario
abbrev pub scenario_clock : ScenarioParts → ℕ → ℕ → ℕ
scenario_clock s v = stated_by s.nodes s.rates v
