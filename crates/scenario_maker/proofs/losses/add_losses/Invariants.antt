use Rattle.std.proofs.Common.{◌≡◌, ◌*◌, ◌/◌, []}
use Rattle.std.specs.List.{fold, flat_map, range_with_len}
use Rattle.scenario_maker.specs.Drawn.{later}
use Rattle.scenario_maker.specs.Made.{with_new_loss, frame_losses}
use Rattle.scenario_maker.proofs.losses.add_losses.Given as goal

abbrev pub invariant-loop-frame : goal.invariant-loop-frame
invariant-loop-frame l = record {
  lines : l.trace.lines ≡ record l.fn.trace.lines { losses = fold with_new_loss [] (flat_map (frame_losses l.fn.draws l.nodes) (range_with_len 0 l.frame)) };
  draws : l.draws ≡ later (4 * (l.nodes / 2) * l.frame) l.fn.draws;
}
