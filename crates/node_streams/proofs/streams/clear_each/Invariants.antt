use Rattle.std.proofs.Common.{◌≡◌, ◌++◌, replicate, drop}
use Rattle.bus_rules.specs.Streams.{no_stream}
use Rattle.node_streams.proofs.streams.clear_each.Given as goal

abbrev pub invariant-loop-stream : goal.invariant-loop-stream
invariant-loop-stream l = l.streams ≡ replicate l.stream-index no_stream ++ drop l.stream-index l.initial.streams
