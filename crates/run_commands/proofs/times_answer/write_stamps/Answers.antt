use Rattle.std.proofs.Common.{rules, of_calls}
use Rattle.run_commands.specs.TimesReport.{stamp_line}
use Rattle.run_commands.proofs.times_answer.write_stamps.Goals as goal

pub returns : goal.returns
returns c = c.write_lines.ensures stamp_line (λ old item result new here wrote. search (rules, of_calls))
