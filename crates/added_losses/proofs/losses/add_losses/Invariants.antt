use Rattle.std.proofs.Common.{◌≡◌, take}
use Rattle.std.specs.List.{fold}
use Rattle.added_losses.specs.LossesAdded.{with_new_line}
use Rattle.added_losses.proofs.losses.add_losses.Given as goal

abbrev pub invariant-loop-line : goal.invariant-loop-line
invariant-loop-line l = l.trace.lines ≡ record l.fn.trace.lines { losses = fold with_new_line l.fn.trace.lines.losses (take l.line-index l.fn.lines) }
