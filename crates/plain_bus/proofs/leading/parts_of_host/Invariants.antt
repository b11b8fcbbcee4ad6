use Rattle.std.proofs.Common.{◌≡◌, None, take}
use Rattle.std.specs.List.{find}
use Rattle.plain_bus.specs.Leaders.{leads}
use Rattle.plain_bus.proofs.leading.parts_of_host.Given as goal

abbrev pub invariant-loop-node : goal.invariant-loop-node
invariant-loop-node l = find (leads l.rank l.frame) (take l.node-index l.nodes) ≡ None
