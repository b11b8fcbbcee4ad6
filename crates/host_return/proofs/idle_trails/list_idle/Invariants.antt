use Rattle.std.proofs.Common.{◌≡◌, ◌++◌, take, filter_map}
use Rattle.host_return.specs.TrailsInOrder.{idle_told}
use Rattle.host_return.proofs.idle_trails.list_idle.Given as goal

abbrev pub invariant-loop-one : goal.invariant-loop-one
invariant-loop-one l = l.idle.items ≡ l.fn.idle.items ++ filter_map (idle_told l.fn.frame) (take l.one-index l.fn.trails)
