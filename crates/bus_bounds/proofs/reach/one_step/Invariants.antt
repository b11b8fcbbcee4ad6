use Rattle.std.proofs.Common.{◌≡◌, filter, take}
use Rattle.bus_bounds.specs.JoinRounds.{is_next}
use Rattle.bus_bounds.proofs.reach.one_step.Given as goal

abbrev pub invariant-loop-node : goal.invariant-loop-node
invariant-loop-node l = l.next.items ≡ filter (is_next l.trace.lines l.frame l.nodes) (take l.node-index l.up)
