-- A scenario whose links lose by coins, and what two scenarios have in common on the bus.
use Rattle.std.specs.Prelude.{◌≡◌, ℕ, List}
use Rattle.scenario_text.specs.ScenarioParts.{ScenarioParts}
use Rattle.bus_terms.specs.Bus.{bus_cost, bus_deliveries, bus_drops}
use Rattle.scenario_text.specs.OverLines.{over}
use Rattle.drawn_links.specs.DrawnLosses.{drawn}
use Rattle.drawn_links.specs.declared.ratio_line.RatioLine.{RatioLine}

-- the scenario with the losses that the seed draws
abbrev pub drawn_scenario : ScenarioParts → List RatioLine → ℕ → ScenarioParts
drawn_scenario s ratios seed = over s (drawn s.trace ratios seed s.frames)

-- the same is delivered and dropped, and each node costs the same
pub record AreSameOnBus (a b : ScenarioParts) : Type 0 where
  pub delivered : bus_deliveries a ≡ bus_deliveries b
  pub dropped : bus_drops a ≡ bus_drops b
  pub cost_each : (v : ℕ) → bus_cost a v ≡ bus_cost b v
