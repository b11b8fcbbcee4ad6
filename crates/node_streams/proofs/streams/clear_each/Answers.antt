use Rattle.bus_rules.specs.Streams.{no_stream}
use Rattle.node_streams.proofs.InTurn.{fill_step}
use Rattle.node_streams.proofs.streams.clear_each.Goals as goal

pub loop-stream-preserved : goal.loop-stream-preserved
loop-stream-preserved c =
    fill_step no_stream c.args.streams.now c.loop-stream.streams c.loop-stream.stream-index c.stream-item.result c.clear.new.self c.loop-stream-test.true
    c.loop-stream.invariant c.clear.ensures
