use Rattle.std.proofs.Common.{rules, of_calls}
use Rattle.bus_report.specs.ReportLines.{drop_line}
use Rattle.bus_report.proofs.event_lines.write_drops.Goals as goal

pub returns : goal.returns
returns c = c.write_lines.ensures drop_line (λ old item result new here wrote. search (rules, of_calls))
