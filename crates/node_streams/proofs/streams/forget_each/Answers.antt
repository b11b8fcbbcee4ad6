use Rattle.bus_rules.specs.Streams.{forgotten}
use Rattle.node_streams.proofs.InTurn.{map_step}
use Rattle.node_streams.proofs.streams.forget_each.Goals as goal

pub loop-stream-preserved : goal.loop-stream-preserved
loop-stream-preserved c =
    map_step (forgotten c.args.frame) c.args.streams.now c.loop-stream.streams c.loop-stream.stream-index c.stream-item.result c.forget.new.self
    c.loop-stream-test.true c.loop-stream.invariant c.stream-item.is c.forget.ensures
