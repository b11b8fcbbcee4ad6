-- The text of `sample`: for one seed after another, what became of the packets.
use Rattle.std.specs.Prelude.{ℕ, List, [], ◌∷◌, ◌++◌, codes, flat_map}
use Rattle.std.specs.List.{range_with_len}
use Rattle.text_writers.specs.Lines.{line_text, numbered}
use Rattle.scenario_text.specs.ScenarioParts.{ScenarioParts}
use Rattle.drawn_bus.specs.DrawnScenarios.{drawn_scenario}
use Rattle.drawn_links.specs.declared.ratio_line.RatioLine.{RatioLine}
use Rattle.fate_report.specs.SampleLines.{sample_text}

-- the line of a seed, and what became of the packets of its drawn scenario
abbrev pub seed_text : ScenarioParts → List RatioLine → ℕ → List ℕ
seed_text s ratios seed = line_text (numbered (codes "seed") (seed ∷ [])) ++ sample_text (drawn_scenario s ratios seed)

-- of this many seeds, from this one on
abbrev pub seeds_text : ScenarioParts → List RatioLine → ℕ → ℕ → List ℕ
seeds_text s ratios from count = flat_map (seed_text s ratios) (range_with_len from count)
