use Rattle.std.proofs.Common.{◌≡◌, map, take}
use Rattle.host_return.specs.TrailsInOrder.{trail_in}
use Rattle.host_return.proofs.idle_trails.trails_of.Given as goal

abbrev pub invariant-loop-i : goal.invariant-loop-i
invariant-loop-i l = l.trails.items ≡ map (trail_in l.fn.s l.fn.air) (take l.i l.nodes)
