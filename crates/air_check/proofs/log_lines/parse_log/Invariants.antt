use Rattle.std.proofs.Common.{◌≡◌, ◌+◌, ◌≤◌, length}
use Rattle.std.specs.Str.Lines.{lines}
use Rattle.text_readers.specs.Faults.{draft_after_lines}
use Rattle.air_check.specs.LogGrammar.{after_log_line, log_of}
use Rattle.air_check.proofs.log_lines.parse_log.Given as goal

-- what the whole says is what the rest says after the entries so far
abbrev pub invariant-loop-rest : goal.invariant-loop-rest
invariant-loop-rest l = record {
  said : log_of l.s l.before l.bytes ≡ draft_after_lines (after_log_line l.s.nodes) (l.count + 1) l.air (lines l.rest);
  within : l.count + length l.rest ≤ l.before + length l.bytes;
}

abbrev pub decreases-loop-rest : goal.decreases-loop-rest
decreases-loop-rest l = length l.rest
