use Rattle.std.specs.BTreeMap.{get}
use Rattle.packet_fates.specs.Hosted.{hosted_cmp, is_of_hosted}
use Rattle.packet_fates.proofs.CountedKeys.{counted_next, room_for_one}
use Rattle.packet_fates.specs.declared.hosted_tally.HostedStream.{HostedStream}
use Rattle.packet_fates.proofs.hosted_tally.hosted_tally.Goals as goal

pub note_sent-requires : goal.note_sent-requires
note_sent-requires c =
    room_for_one (is_of_hosted c.args.hosts.now) c.args.fates.now c.loop-fate.fate-index (λ (k : HostedStream). get hosted_cmp c.loop-fate.tally k)
    c.loop-fate-test.true c.loop-fate.invariant c.requires

pub loop-fate-preserved : goal.loop-fate-preserved
loop-fate-preserved c =
    counted_next (is_of_hosted c.args.hosts.now) c.args.fates.now c.loop-fate.fate-index (λ (k : HostedStream). get hosted_cmp c.loop-fate.tally k)
    c.loop-fate-test.true c.loop-fate.invariant c.fate-item.result (λ (k : HostedStream). get hosted_cmp c.note_sent.new.tally k) c.fate-item.is
    c.in_ok-note_sent.ensures
