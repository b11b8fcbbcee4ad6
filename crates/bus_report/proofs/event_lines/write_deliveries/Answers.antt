use Rattle.std.proofs.Common.{rules, of_calls}
use Rattle.bus_report.specs.ReportLines.{delivery_line}
use Rattle.bus_report.proofs.event_lines.write_deliveries.Goals as goal

pub returns : goal.returns
returns c = c.write_lines.ensures delivery_line (λ old item result new here wrote. search (rules, of_calls))
