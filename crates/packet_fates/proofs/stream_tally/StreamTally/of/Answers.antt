use Rattle.packet_fates.proofs.CountedStreams.{counted_more, room_below}
use Rattle.packet_fates.proofs.stream_tally.StreamTally.of.Goals as goal

pub note-requires : goal.note-requires
note-requires c =
    room_below c.args.fates.now c.loop-fate.fate-index c.loop-fate.tally c.loop-fate-test.true c.loop-fate.invariant c.requires c.fate-item.result.put.node
    c.fate-item.result.put.stream

pub loop-fate-preserved : goal.loop-fate-preserved
loop-fate-preserved c =
    counted_more c.args.fates.now c.loop-fate.fate-index c.loop-fate.tally c.loop-fate-test.true c.loop-fate.invariant c.fate-item.result c.note.new.self
    c.fate-item.is
    c.in_ok-note.ensures
