use Rattle.std.proofs.Common.{◌+◌, ◌*◌, arith, refl, sym, ◌∙◌}
use Rattle.scenario_maker.specs.Made.{drawn_loss}
use Rattle.scenario_maker.proofs.LaterWords.{none_on}
use Rattle.scenario_maker.proofs.LoopSteps.{steps_to, loss_on, loss_added}
use Rattle.scenario_maker.proofs.losses.add_losses_of.Goals as goal

pub loop-k-init : goal.loop-k-init
loop-k-init c = record { lines = refl; draws = sym (none_on c.args.draws.now) }

pub loop-k-preserved : goal.loop-k-preserved
loop-k-preserved c =
    let g = c.args.draws.now in
    let k = c.loop-k.k in
    let f = drawn_loss g c.args.nodes c.args.frame in
    record {
      lines = loss_added c.args.trace.now.lines c.loop-k.trace.lines c.add_loss.new.trace.lines f k c.draw_loss-line.result c.loop-k.invariant.lines
          (c.draw_loss-line.ensures.value ∙ loss_on g c.loop-k.draws c.args.nodes c.args.frame k c.loop-k.invariant.draws) (c.in_ok-add_loss.ensures);
      draws = steps_to (4 * k) 4 (4 * (k + 1)) g c.loop-k.draws c.draw_loss-line.new.draws c.loop-k.invariant.draws c.draw_loss-line.ensures.left (omega arith);
    }
