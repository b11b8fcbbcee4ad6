use Rattle.std.proofs.Common.{◌≡◌, ◌++◌, map, take, drop}
use Rattle.bus_rules.specs.Streams.{forgotten}
use Rattle.node_streams.proofs.streams.forget_each.Given as goal

abbrev pub invariant-loop-stream : goal.invariant-loop-stream
invariant-loop-stream l = l.streams ≡ map (forgotten l.frame) (take l.stream-index l.initial.streams) ++ drop l.stream-index l.initial.streams
