use Rattle.std.proofs.Common.{◌≡◌, count_by, take}
use Rattle.std.specs.BTreeMap.{get}
use Rattle.std.specs.Map.{count_at}
use Rattle.bus_terms.specs.declared.packets.PacketId.{PacketId}
use Rattle.packet_fates.specs.PacketOrder.{packet_cmp}
use Rattle.packet_fates.specs.Tables.{is_received}
use Rattle.packet_fates.proofs.receivers.host_receiver_counts.Given as goal

abbrev pub invariant-loop-delivery : goal.invariant-loop-delivery
invariant-loop-delivery l = (x : PacketId) → count_at (get packet_cmp l.counts) x ≡ count_by (is_received l.hosts x) (take l.delivery-index l.deliveries)
