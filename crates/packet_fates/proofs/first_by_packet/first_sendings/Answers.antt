use Rattle.std.proofs.Common.{Option, Some, None, if◌then◌else◌, sym, ◌∙◌, ap}
use Rattle.std.specs.Option.{option_or}
use Rattle.bus_terms.specs.Fates.{is_packet}
use Rattle.bus_terms.specs.declared.packets.SentPacket.{SentPacket}
use Rattle.packet_fates.proofs.FirstOnes.{find_more}
use Rattle.packet_fates.proofs.first_by_packet.first_sendings.Goals as goal

pub loop-sending-preserved : goal.loop-sending-preserved
loop-sending-preserved c = λ x.
    let t = c.sending-item.result in
    c.in_ok-note_first.ensures x
    ∙ ap (λ (o : Option SentPacket). option_or o (if is_packet x t.packet then Some t else None)) (c.loop-sending.invariant x)
    ∙ sym (find_more (λ (t : SentPacket). is_packet x t.packet) c.args.sent.now c.loop-sending.sending-index t c.loop-sending-test.true c.sending-item.is)
