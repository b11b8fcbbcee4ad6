use Rattle.std.specs.BTreeMap.{get}
use Rattle.bus_rules.specs.declared.delivery.Delivery.{Delivery}
use Rattle.bus_terms.specs.Fates.{is_packet, packet_delivered}
use Rattle.bus_terms.specs.declared.packets.PacketId.{PacketId}
use Rattle.packet_fates.specs.PacketOrder.{packet_cmp}
use Rattle.packet_fates.proofs.CountedKeys.{counted_next, room_for_one}
use Rattle.packet_fates.proofs.CountedPackets.{delivery_counted}
use Rattle.packet_fates.proofs.receivers.receiver_counts.Goals as goal

pub count_one-requires : goal.count_one-requires
count_one-requires c =
    room_for_one (λ (x : PacketId) (d : Delivery). is_packet x (packet_delivered d)) c.args.deliveries.now c.loop-delivery.delivery-index
    (λ (x : PacketId). get packet_cmp c.loop-delivery.counts x)
    c.loop-delivery-test.true c.loop-delivery.invariant c.requires c.packet_of.result

pub loop-delivery-preserved : goal.loop-delivery-preserved
loop-delivery-preserved c =
    counted_next (λ (x : PacketId) (d : Delivery). is_packet x (packet_delivered d)) c.args.deliveries.now c.loop-delivery.delivery-index
    (λ (x : PacketId). get packet_cmp c.loop-delivery.counts x)
    c.loop-delivery-test.true c.loop-delivery.invariant c.delivery-item.result (λ (x : PacketId). get packet_cmp c.count_one.new.counts x) c.delivery-item.is
    (delivery_counted (λ (x : PacketId). get packet_cmp c.loop-delivery.counts x) (λ (x : PacketId). get packet_cmp c.count_one.new.counts x)
    c.packet_of.result c.in_ok-count_one.ensures.0 c.delivery-item.result c.packet_of.ensures)
