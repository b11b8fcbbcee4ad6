use Rattle.std.proofs.Common.{◌∙◌, ap, arith, length, ◌+◌}
use Rattle.std.specs.Str.Lines.{lines}
use Rattle.text_readers.specs.Faults.{draft_after_lines}
use Rattle.text_readers.specs.Reading.{draft_after_line}
use Rattle.text_readers.proofs.LinesRead.{one_line_more}
use Rattle.text_readers.proofs.reading.read_lines.Goals as goal

pub loop-rest-preserved : goal.loop-rest-preserved
loop-rest-preserved g c =
    let l = c.loop-rest in
    let cut = c.first_line.ensures.cut in
    let read = c.in-Ok.ensures in
    let after = draft_after_line g.D.Draft.after in
    let counted = l.invariant.counted ∙ ap (λ n. l.count + length n) cut in
    let shorter = c.first_line.ensures.shorter in
    let more = one_line_more after (l.count + 1) l.draft c.read_line.new.draft c.first_line.result.0.now
    (lines c.first_line.result.1.now) read in
    record {
      said = l.invariant.said ∙ ap (λ ls. draft_after_lines after (l.count + 1) l.draft ls) cut ∙ more;
      counted = omega (arith, counted);
      within = omega (arith, shorter, l.invariant.within);
    }
