use Rattle.std.proofs.Common.{◌≡◌, ◌*◌, map}
use Rattle.std.specs.List.{fold, range_with_len}
use Rattle.scenario_maker.specs.Drawn.{later}
use Rattle.scenario_maker.specs.Made.{with_new_loss, drawn_loss}
use Rattle.scenario_maker.proofs.losses.add_losses_of.Given as goal

abbrev pub invariant-loop-k : goal.invariant-loop-k
invariant-loop-k l = record {
  lines : l.trace.lines ≡ record l.fn.trace.lines {
    losses = fold with_new_loss l.fn.trace.lines.losses
        (map (drawn_loss l.fn.draws l.nodes l.frame) (range_with_len 0 l.k));
  };
  draws : l.draws ≡ later (4 * l.k) l.fn.draws;
}
