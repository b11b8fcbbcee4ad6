-- A drawn scenario is one over other lines: over those of its text it is the text's scenario.
use Rattle.std.proofs.Common.{ℕ, List}
use Rattle.scenario_text.specs.ScenarioGrammar.{IsScenario}
use Rattle.scenario_text.specs.ScenarioParts.{ScenarioParts}
use Rattle.bus_terms.specs.Bus.{Ordered, bus_deliveries}
use Rattle.scenario_text.specs.OverLines.{IsOverScenario}
use Rattle.bus_terms.proofs.OrderedDeliveries.{deliveries_in_order}
use Rattle.scenario_text.proofs.SoundOver.{over_sound}
use Rattle.drawn_links.specs.declared.ratio_line.RatioLine.{RatioLine}
use Rattle.drawn_bus.specs.DrawnScenarios.{drawn_scenario}

module _ (s : ScenarioParts) (ratios : List RatioLine) (seed : ℕ) (said : IsScenario s) where
  pub drawn_over : IsOverScenario (drawn_scenario s ratios seed)
  drawn_over = (s.trace, said)

  pub drawn_in_order : Ordered (bus_deliveries (drawn_scenario s ratios seed))
  drawn_in_order = deliveries_in_order (drawn_scenario s ratios seed) (over_sound (drawn_scenario s ratios seed) drawn_over)
