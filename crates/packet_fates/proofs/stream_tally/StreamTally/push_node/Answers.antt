use Rattle.std.proofs.Common.{◌≡◌, get_or}
use Rattle.bus_terms.specs.Fates.{streams}
use Rattle.packet_fates.specs.Counts.{tally_at}
use Rattle.packet_fates.proofs.CountedStreams.{some_put}
use Rattle.packet_fates.proofs.KeptOnes.{kept_more}
use Rattle.packet_fates.proofs.stream_tally.StreamTally.push_node.Goals as goal

pub loop-stream-preserved : goal.loop-stream-preserved
loop-stream-preserved c =
    let stream = get_or streams c.loop-stream.stream-index 0 in
    let value : c.at.result ≡ tally_at c.args.self.now c.args.node stream = c.at.ensures in
    kept_more some_put (tally_at c.args.self.now c.args.node) streams c.loop-stream.stream-index 0 c.at.result c.args.counts.now.items
    c.loop-stream.counts.items
    c.push_some.new.all.items c.loop-stream-test.true value c.loop-stream.invariant c.in_ok-push_some.ensures
