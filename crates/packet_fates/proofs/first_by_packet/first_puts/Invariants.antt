use Rattle.std.proofs.Common.{◌≡◌, find, take}
use Rattle.std.specs.BTreeMap.{get}
use Rattle.bus_terms.specs.Fates.{queues}
use Rattle.bus_terms.specs.declared.packets.PacketId.{PacketId}
use Rattle.packet_fates.specs.PacketOrder.{packet_cmp}
use Rattle.packet_fates.proofs.first_by_packet.first_puts.Given as goal

abbrev pub invariant-loop-put : goal.invariant-loop-put
invariant-loop-put l = (x : PacketId) → get packet_cmp l.first x ≡ find (λ p. queues x p.packet) (take l.put-index l.puts)
