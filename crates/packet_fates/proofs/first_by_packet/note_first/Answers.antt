use Rattle.std.proofs.Common.{sym, ◌∙◌}
use Rattle.std.specs.BTreeMap.{get}
use Rattle.bus_terms.specs.declared.packets.PacketId.{PacketId}
use Rattle.packet_fates.specs.PacketOrder.{packet_cmp}
use Rattle.packet_fates.proofs.FirstOnes.{had_first, new_first}
use Rattle.packet_fates.proofs.first_by_packet.note_first.Goals as goal

pub returns-in_ok-insert : goal.returns-in_ok-insert
returns-in_ok-insert g c =
    new_first (λ (x : PacketId). get packet_cmp c.args.first.now x) c.args.packet c.args.value (λ (x : PacketId). get packet_cmp c.insert.new.self x)
    (sym c.contains_key.ensures ∙ c.if-not-contains_key.true) c.in_ok-insert.ensures.updates.0

pub returns-else-not-contains_key : goal.returns-else-not-contains_key
returns-else-not-contains_key g c =
    had_first (λ (x : PacketId). get packet_cmp c.args.first.now x) c.args.packet c.args.value (sym c.contains_key.ensures ∙ c.if-not-contains_key.false)
