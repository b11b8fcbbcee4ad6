use Rattle.std.proofs.Common.{◌≡◌, find, take}
use Rattle.std.specs.BTreeMap.{get}
use Rattle.bus_terms.specs.Fates.{is_packet}
use Rattle.bus_terms.specs.declared.packets.PacketId.{PacketId}
use Rattle.packet_fates.specs.PacketOrder.{packet_cmp}
use Rattle.packet_fates.proofs.first_by_packet.first_sendings.Given as goal

abbrev pub invariant-loop-sending : goal.invariant-loop-sending
invariant-loop-sending l = (x : PacketId) → get packet_cmp l.first x ≡ find (λ t. is_packet x t.packet) (take l.sending-index l.sent)
