use Rattle.bus_rules.specs.Streams.{with_granted_interval}
use Rattle.node_streams.proofs.InTurn.{map_step}
use Rattle.node_streams.proofs.streams.disagree.Goals as goal

pub loop-stream-preserved : goal.loop-stream-preserved
loop-stream-preserved c =
    map_step (with_granted_interval 0) c.args.streams.now c.loop-stream.streams c.loop-stream.stream-index c.stream-item.result c.set_agreed.new.self
    c.loop-stream-test.true
    c.loop-stream.invariant c.stream-item.is c.set_agreed.ensures
