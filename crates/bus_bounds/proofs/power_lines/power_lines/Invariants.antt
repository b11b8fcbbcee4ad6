use Rattle.std.proofs.Common.{◌≡◌, take}
use Rattle.bus_bounds.specs.PowerLines.{power_lines}
use Rattle.bus_bounds.proofs.power_lines.power_lines.Given as goal

abbrev pub invariant-loop-line : goal.invariant-loop-line
invariant-loop-line l = l.lines.items ≡ power_lines (take l.line-index l.script)
