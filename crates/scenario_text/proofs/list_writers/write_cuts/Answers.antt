use Rattle.std.proofs.Common.{rules, of_calls}
use Rattle.text_writers.specs.Lines.{line_text}
use Rattle.scenario_text.specs.Canonical.{cut_words}
use Rattle.scenario_text.proofs.list_writers.write_cuts.Goals as goal

pub returns : goal.returns
returns c = c.write_lines.ensures (λ l. line_text (cut_words l)) (λ old item result new here wrote. search (rules, of_calls))
