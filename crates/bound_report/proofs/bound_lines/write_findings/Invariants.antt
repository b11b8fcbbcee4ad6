use Rattle.std.proofs.Common.{◌≡◌, ◌++◌, flat_map, string_bytes, take}
use Rattle.bound_report.specs.BoundLines.{finding_line}
use Rattle.bound_report.proofs.bound_lines.write_findings.Given as goal

abbrev pub invariant-loop-finding : goal.invariant-loop-finding
invariant-loop-finding l = string_bytes l.text ≡ string_bytes l.fn.text ++ flat_map (finding_line l.bytes) (take l.finding-index l.findings)
