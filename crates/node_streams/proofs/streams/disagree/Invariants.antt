use Rattle.std.proofs.Common.{◌≡◌, ◌++◌, map, take, drop}
use Rattle.bus_rules.specs.Streams.{with_granted_interval}
use Rattle.node_streams.proofs.streams.disagree.Given as goal

abbrev pub invariant-loop-stream : goal.invariant-loop-stream
invariant-loop-stream l = l.streams ≡ map (with_granted_interval 0) (take l.stream-index l.initial.streams) ++ drop l.stream-index l.initial.streams
