use Rattle.std.proofs.Common.{rules, of_calls}
use Rattle.run_commands.specs.DeadlineReport.{answer_line}
use Rattle.run_commands.proofs.deadline_report.write_answers.Goals as goal

pub returns : goal.returns
returns c = c.write_lines.ensures answer_line (λ old item result new here wrote. search (rules, of_calls))
