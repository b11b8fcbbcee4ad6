use Rattle.std.proofs.Common.{◌∙◌, sym, ap, arith, ◌+◌}
use Rattle.std.specs.Str.Lines.{lines}
use Rattle.text_readers.specs.Faults.{draft_after_lines}
use Rattle.text_readers.proofs.LinesRead.{one_line_more}
use Rattle.air_check.specs.LogGrammar.{after_log_line}
use Rattle.air_check.proofs.log_lines.parse_log.Goals as goal

pub loop-rest-preserved : goal.loop-rest-preserved
loop-rest-preserved c =
    let l = c.loop-rest in
    let cut = c.first_line.ensures.cut in
    let after = after_log_line c.args.s.now.nodes in
    let shorter = c.first_line.ensures.shorter in
    let line = c.first_line.result.0.now in
    let read = ap (λ ns. after_log_line ns l.air line) (sym c.nodes.ensures.value) ∙ c.in-Ok.ensures in
    let more = one_line_more after (l.count + 1) l.air c.read_line.new.air line (lines c.first_line.result.1.now) read in
    record {
      said = l.invariant.said ∙ ap (λ ls. draft_after_lines after (l.count + 1) l.air ls) cut ∙ more;
      within = omega (arith, shorter, l.invariant.within);
    }
