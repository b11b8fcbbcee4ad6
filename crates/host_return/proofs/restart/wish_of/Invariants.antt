use Rattle.std.proofs.Common.{◌≡◌, false, fold, take}
use Rattle.host_return.specs.Wishes.{told_line}
use Rattle.host_return.proofs.restart.wish_of.Given as goal

abbrev pub invariant-loop-line : goal.invariant-loop-line
invariant-loop-line l = (l.wish.on, l.wish.interval) ≡ fold (told_line l.fn.frame l.fn.node l.fn.stream) (false, 0) (take l.line-index l.fn.script)
