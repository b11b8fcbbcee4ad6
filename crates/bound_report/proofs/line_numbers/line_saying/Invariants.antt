use Rattle.std.proofs.Common.{◌≡◌, ◌+◌, ◌≤◌, length}
use Rattle.std.specs.Str.Lines.{lines}
use Rattle.bound_report.specs.LineNumbers.{line_saying}
use Rattle.bound_report.proofs.line_numbers.line_saying.Given as goal

-- the rest says it where the whole text does
abbrev pub invariant-loop-rest : goal.invariant-loop-rest
invariant-loop-rest l = record {
  goes : line_saying l.line l.count (lines l.rest) ≡ line_saying l.line 1 (lines l.bytes);
  within : l.count + length l.rest ≤ length l.bytes + 1;
}

abbrev pub decreases-loop-rest : goal.decreases-loop-rest
decreases-loop-rest l = length l.rest
