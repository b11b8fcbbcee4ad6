use Rattle.std.proofs.Common.{◌≡◌, map, take}
use Rattle.host_return.proofs.IdleCounted.{count_for}
use Rattle.host_return.proofs.probes.counts_of.Given as goal

abbrev pub invariant-loop-line : goal.invariant-loop-line
invariant-loop-line l = l.counts.items ≡ map (count_for l.fn.idle) (take l.line-index l.nodes)
