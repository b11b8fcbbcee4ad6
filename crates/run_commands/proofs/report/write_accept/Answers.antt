use Rattle.std.proofs.Common.{rules, append_assoc}
use Rattle.run_commands.proofs.report.write_accept.Goals as goal

pub returns : goal.returns
returns c = search (rules, append_assoc)
