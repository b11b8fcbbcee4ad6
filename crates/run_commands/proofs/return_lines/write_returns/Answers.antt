use Rattle.std.proofs.Common.{rules, of_calls}
use Rattle.run_commands.specs.ReturnReport.{return_line}
use Rattle.run_commands.proofs.return_lines.write_returns.Goals as goal

pub returns : goal.returns
returns c = c.write_lines.ensures return_line (λ old item result new here wrote. search (rules, of_calls))
