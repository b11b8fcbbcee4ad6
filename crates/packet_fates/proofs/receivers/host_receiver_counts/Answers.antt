use Rattle.std.specs.BTreeMap.{get}
use Rattle.bus_terms.specs.declared.packets.PacketId.{PacketId}
use Rattle.packet_fates.specs.PacketOrder.{packet_cmp}
use Rattle.packet_fates.specs.Tables.{is_received}
use Rattle.packet_fates.proofs.CountedKeys.{counted_next, room_for_one}
use Rattle.packet_fates.proofs.receivers.host_receiver_counts.Goals as goal

pub note_at_host-requires : goal.note_at_host-requires
note_at_host-requires c =
    room_for_one (is_received c.args.hosts.now) c.args.deliveries.now c.loop-delivery.delivery-index
    (λ (x : PacketId). get packet_cmp c.loop-delivery.counts x) c.loop-delivery-test.true c.loop-delivery.invariant c.requires

pub loop-delivery-preserved : goal.loop-delivery-preserved
loop-delivery-preserved c =
    counted_next (is_received c.args.hosts.now) c.args.deliveries.now c.loop-delivery.delivery-index
    (λ (x : PacketId). get packet_cmp c.loop-delivery.counts x) c.loop-delivery-test.true c.loop-delivery.invariant c.delivery-item.result
    (λ (x : PacketId). get packet_cmp c.note_at_host.new.counts x) c.delivery-item.is c.in_ok-note_at_host.ensures
