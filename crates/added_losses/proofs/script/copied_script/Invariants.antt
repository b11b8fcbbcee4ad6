use Rattle.std.proofs.Common.{◌≡◌, take}
use Rattle.added_losses.proofs.script.copied_script.Given as goal

abbrev pub invariant-loop-line : goal.invariant-loop-line
invariant-loop-line l = l.script.items ≡ take l.line-index l.fn.lines
