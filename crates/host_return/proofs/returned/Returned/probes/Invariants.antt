use Rattle.std.proofs.Common.{◌≡◌, drop}
use Rattle.host_return.specs.Returned.{count_of_node}
use Rattle.host_return.proofs.returned.Returned.probes.Given as goal

abbrev pub invariant-loop-count : goal.invariant-loop-count
invariant-loop-count l = count_of_node (drop l.count-index l.count-items) l.node ≡ count_of_node l.count-items l.node
