use Rattle.std.proofs.Common.{filter_map, take}
use Rattle.packet_fates.specs.Latencies.{IsTallyOf, latency_by}
use Rattle.packet_fates.proofs.latency_tally.latency_tally.Given as goal

abbrev pub invariant-loop-delivery : goal.invariant-loop-delivery
invariant-loop-delivery l = IsTallyOf (filter_map (latency_by l.first) (take l.delivery-index l.deliveries)) l.tally
