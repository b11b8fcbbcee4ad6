use Rattle.std.proofs.Common.{filter_map, take}
use Rattle.packet_fates.specs.Latencies.{host_latency_by}
use Rattle.packet_fates.proofs.TalliedLatencies.{deliveries_more, room_of_latency}
use Rattle.packet_fates.proofs.latency_tally.host_latency_tally.Goals as goal

pub note_latency-requires : goal.note_latency-requires
note_latency-requires c =
    room_of_latency (host_latency_by c.args.hosts.now c.args.first.now) c.args.deliveries.now c.loop-delivery.delivery-index c.loop-delivery-test.true
    c.requires
    c.loop-delivery.tally
    c.loop-delivery.invariant

pub loop-delivery-preserved : goal.loop-delivery-preserved
loop-delivery-preserved c =
    deliveries_more (host_latency_by c.args.hosts.now c.args.first.now) c.args.deliveries.now c.loop-delivery.delivery-index c.loop-delivery-test.true
    c.note_latency.new.tally
    c.delivery-item.result c.host_latency_of.result c.delivery-item.is c.host_latency_of.ensures
    (c.in_ok-note_latency.ensures (filter_map (host_latency_by c.args.hosts.now c.args.first.now) (take c.loop-delivery.delivery-index c.args.deliveries.now))
    c.loop-delivery.invariant)
