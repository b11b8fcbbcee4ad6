use Rattle.std.proofs.Common.{◌≡◌, ◌+◌, ◌≤◌, length}
use Rattle.std.specs.Str.Lines.{lines}
use Rattle.text_readers.specs.Faults.{draft_after_lines}
use Rattle.text_readers.specs.Reading.{draft_after_line}
use Rattle.text_readers.proofs.reading.read_lines.Given as goal

-- what the whole says is what the rest says after the draft
abbrev pub invariant-loop-rest : goal.invariant-loop-rest
invariant-loop-rest g l = record {
  said : draft_after_lines (draft_after_line g.D.Draft.after) 1 l.fn.draft (lines l.bytes)
      ≡ draft_after_lines (draft_after_line g.D.Draft.after) (l.count + 1) l.draft (lines l.rest);
  counted : length (lines l.bytes) ≡ l.count + length (lines l.rest);
  within : l.count + length l.rest ≤ length l.bytes;
}

abbrev pub decreases-loop-rest : goal.decreases-loop-rest
decreases-loop-rest g l = length l.rest
