use Rattle.std.proofs.Common.{◌∙◌, ap, arith, ◌+◌}
use Rattle.std.specs.Str.Lines.{lines}
use Rattle.text_readers.specs.Faults.{draft_after_lines}
use Rattle.text_readers.specs.Reading.{draft_after_line}
use Rattle.text_readers.proofs.LinesRead.{one_line_more}
use Rattle.network_text.specs.NetworkGrammar.{ratios_after_words}
use Rattle.network_text.proofs.ratio_lines.parse_ratios.Goals as goal

pub loop-rest-preserved : goal.loop-rest-preserved
loop-rest-preserved c =
    let l = c.loop-rest in
    let after = draft_after_line (ratios_after_words c.args.s.now) in
    let shorter = c.first_line.ensures.shorter in
    let more = one_line_more after (l.count + 1) l.ratios.lines c.read_line.new.ratios.lines c.first_line.result.0.now
    (lines c.first_line.result.1.now) c.in-Ok-read_line.ensures.lines in
    record {
      said = l.invariant.said ∙ ap (λ ls. draft_after_lines after (l.count + 1) l.ratios.lines ls) c.first_line.ensures.cut ∙ more;
      within = omega (arith, shorter, l.invariant.within);
      nodes = c.read_line.ensures.nodes ∙ l.invariant.nodes;
    }
