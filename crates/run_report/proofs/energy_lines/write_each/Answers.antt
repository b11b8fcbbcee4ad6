use Rattle.std.proofs.Common.{rules, of_calls}
use Rattle.run_report.specs.RunReport.{energy_line}
use Rattle.run_report.proofs.energy_lines.write_each.Goals as goal

pub returns : goal.returns
returns c =
    λ energy says.
    c.write_lines.ensures (λ n. energy_line n.node (energy n.node)) (λ old item result new here post.
    let line = says item.now here in search (rules, of_calls, post, line))
