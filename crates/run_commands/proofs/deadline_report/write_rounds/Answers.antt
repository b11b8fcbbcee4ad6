use Rattle.std.proofs.Common.{rules, of_calls}
use Rattle.run_commands.specs.DeadlineReport.{round_line}
use Rattle.run_commands.proofs.deadline_report.write_rounds.Goals as goal

pub returns : goal.returns
returns c = c.write_lines_in_places.ensures round_line (λ old place item result new below at wrote. search (rules, of_calls))
