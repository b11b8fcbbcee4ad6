-- Runs over links that draw are runs of the drawn scenario.
use Rattle.std.proofs.Common.{◌≡◌, ℕ, List, ◌∙◌, ap}
use Rattle.link_trace.specs.Passes.{Lines}
use Rattle.link_trace.specs.Sealed.{Traced}
use Rattle.scenario_text.specs.OverLines.{over}
use Rattle.scenario_text.specs.ScenarioParts.{ScenarioParts}
use Rattle.drawn_links.specs.DrawnLosses.{drawn}
use Rattle.drawn_links.specs.Drawings.{Drawing, lines_of}
use Rattle.drawn_links.specs.declared.ratio_line.RatioLine.{RatioLine}
use Rattle.drawn_bus.specs.DrawnScenarios.{drawn_scenario}

pub over_drawn : (s : ScenarioParts) (ratios : List RatioLine) (seed : ℕ) (links : Drawing) (trace : Traced) (frames : ℕ)
    → links ≡ record { trace = trace; ratios = ratios; seed = seed; frames = frames } → trace.lines ≡ s.trace → frames ≡ s.frames
    → over s (lines_of links) ≡ drawn_scenario s ratios seed
over_drawn s ratios seed links trace frames is of_trace of_frames =
    ap (λ (x : Drawing). over s (lines_of x)) is
    ∙ ap (λ (t : Lines). over s (drawn t ratios seed frames)) of_trace
    ∙ ap (λ (n : ℕ). over s (drawn s.trace ratios seed n)) of_frames
