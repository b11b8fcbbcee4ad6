use Rattle.std.proofs.Common.{◌≡◌, ◌++◌, map, take}
use Rattle.bus_bounds.specs.BoundFindings.{failover_finding}
use Rattle.bus_bounds.proofs.failovers.push_failovers.Given as goal

abbrev pub invariant-loop-host : goal.invariant-loop-host
invariant-loop-host l = l.found.items ≡ l.fn.found.items ++ map (failover_finding l.lines l.hosts l.run) (take l.host-index l.hosts)
