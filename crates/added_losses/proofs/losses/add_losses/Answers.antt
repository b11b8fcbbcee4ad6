use Rattle.added_losses.proofs.LossLines.{turn_more}
use Rattle.added_losses.proofs.losses.add_losses.Goals as goal

pub loop-line-preserved : goal.loop-line-preserved
loop-line-preserved c =
    turn_more c.args.trace.now.lines c.loop-line.trace.lines c.add_loss.new.trace.lines c.args.lines.now c.loop-line.line-index c.line-item.result
    c.loop-line-test.true c.line-item.is c.loop-line.invariant c.in_ok-add_loss.ensures
