use Rattle.std.proofs.Common.{filter_map, take}
use Rattle.packet_fates.specs.Latencies.{IsTallyOf, host_latency_by}
use Rattle.packet_fates.proofs.latency_tally.host_latency_tally.Given as goal

abbrev pub invariant-loop-delivery : goal.invariant-loop-delivery
invariant-loop-delivery l = IsTallyOf (filter_map (host_latency_by l.hosts l.first) (take l.delivery-index l.deliveries)) l.tally
