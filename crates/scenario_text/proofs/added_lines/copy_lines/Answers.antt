use Rattle.std.proofs.Common.{◌≡◌, ◌<◌, ◌++◌, [], ◌∷◌, All, rules, ◌∙◌}
use Rattle.bus_rules.specs.States.{payload_of}
use Rattle.scenario_text.proofs.LinesAdded.{lines_more, all_more}
use Rattle.scenario_text.proofs.added_lines.copy_lines.Goals as goal

pub loop-line-preserved : goal.loop-line-preserved
loop-line-preserved c =
    let i = c.loop-line.line-index in
    let x = c.line-item.result in
    let pushed : c.push.new.self.items ≡ c.loop-line.all.items ++ c.copied.result ∷ [] = search rules in
    record {
      lines = pushed ∙ lines_more c.args.all.now.items c.loop-line.all.items c.args.lines.now i x c.copied.result c.loop-line-test.true c.line-item.is
          c.copied.ensures.same c.loop-line.invariant.lines;
      bytes = all_more (λ l. All (λ b. b < 256) (payload_of l.act)) c.args.lines.now i x c.loop-line-test.true c.line-item.is c.copied.ensures.bytes
          c.loop-line.invariant.bytes;
    }
