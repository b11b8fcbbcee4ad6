use Rattle.std.proofs.Common.{◌≡◌, flat_map, take}
use Rattle.bus_bounds.specs.JoinRounds.{both_of}
use Rattle.bus_bounds.proofs.joining.after_boot.Given as goal

abbrev pub invariant-loop-node : goal.invariant-loop-node
invariant-loop-node l = l.found.items ≡ flat_map (both_of l.lines l.run l.boot) (take l.node-index l.nodes)
