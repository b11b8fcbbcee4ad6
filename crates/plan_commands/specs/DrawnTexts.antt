-- The text of `draw`: a scenario with those drawn losses that change what somebody receives.
use Rattle.std.specs.Prelude.{◌≡◌, ℕ, ◌+◌, List, Some, None, Option, Ok, Err, Result, length, option_map}
use Rattle.std.specs.Str.Lines.{lines}
use Rattle.link_trace.specs.declared.lines.LoseLine.{LoseLine}
use Rattle.text_readers.specs.declared.fault.FaultKind.{FaultKind}
use Rattle.scenario_text.specs.Canonical.{canonical}
use Rattle.scenario_text.specs.ScenarioGrammar.{scenario_of}
use Rattle.scenario_text.specs.ScenarioParts.{ScenarioParts}
use Rattle.drawn_links.specs.declared.ratio_line.RatioLine.{RatioLine}
use Rattle.drawn_bus.specs.DrawnScenarios.{AreSameOnBus, drawn_scenario}
use Rattle.drawn_bus.specs.FloodLosses.{losses_of_bus}
use Rattle.drawn_bus.specs.KeptLosses.{kept_losses}
use Rattle.added_losses.specs.LossesAdded.{IsWithLosses, text_fault}

-- the drawn losses that change a reception, each once
abbrev pub drawn_lines : ScenarioParts → List RatioLine → ℕ → List LoseLine
drawn_lines s ratios seed = losses_of_bus s (drawn_scenario s ratios seed)

-- why no text says the scenario with them to a run
abbrev pub drawn_text_fault : ScenarioParts → List RatioLine → ℕ → Option FaultKind
drawn_text_fault s ratios seed = text_fault s (drawn_lines s ratios seed)

-- the text says this scenario to a run, and is its canonical text. It is s with the drawn losses that change a reception and no others
-- more, and its bus is that of s with all drawn losses
pub record IsDrawnText (s : ScenarioParts) (ratios : List RatioLine) (seed : ℕ) (text : List ℕ) : Type 0 where
  pub fits : drawn_text_fault s ratios seed ≡ None
  pub drawn : ScenarioParts
  pub said : scenario_of text ≡ Ok drawn
  pub spelled : text ≡ canonical drawn
  pub losses : IsWithLosses s (kept_losses s ratios seed) drawn
  pub same_bus : AreSameOnBus drawn (drawn_scenario s ratios seed)

-- the fault of bytes that say this network, or have this fault. That there is no text is said of the line after the last
abbrev pub draw_fault : ℕ → List ℕ → Result (ScenarioParts × List RatioLine) (ℕ × FaultKind) → Option (ℕ × FaultKind)
draw_fault seed b (Err fault) = Some fault
draw_fault seed b (Ok n) = option_map (λ k. (length (lines b) + 1, k)) (drawn_text_fault n.0 n.1 seed)
