use Rattle.std.proofs.Common.{rules, of_calls}
use Rattle.run_commands.specs.FloodReport.{accept_line}
use Rattle.run_commands.proofs.report.write_accepts.Goals as goal

pub returns : goal.returns
returns c = c.write_lines.ensures accept_line (λ old item result new here wrote. search (rules, of_calls))
