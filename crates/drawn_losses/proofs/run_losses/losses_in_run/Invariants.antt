use Rattle.std.proofs.Common.{◌≡◌, flat_map}
use Rattle.std.specs.List.{range_with_len}
use Rattle.scenario_text.specs.OverLines.{over}
use Rattle.bus_model.specs.RunningBuses.{IsBeforeFrame}
use Rattle.drawn_losses.specs.StepLosses.{losses_of_frame}
use Rattle.drawn_losses.proofs.run_losses.losses_in_run.Given as goal

abbrev pub invariant-loop-frame : goal.invariant-loop-frame
invariant-loop-frame g l = record {
  before : IsBeforeFrame l.scenario l.frame l.bus;
  found : l.lines.items ≡ flat_map (losses_of_frame l.s (over l.s (g.M.Links.lines l.links))) (range_with_len 0 l.frame);
}
