use Rattle.std.proofs.Common.{◌≡◌, filter, flat_map, map, nat_lt, take}
use Rattle.bus_terms.specs.Fates.{streams}
use Rattle.packet_fates.specs.Counts.{tally_at}
use Rattle.packet_fates.proofs.stream_tally.stream_counts.Given as goal

abbrev pub invariant-loop-line : goal.invariant-loop-line
invariant-loop-line l = l.counts.items ≡ flat_map (λ n. filter (λ c. nat_lt 0 c.put) (map (tally_at l.tally n.node) streams)) (take l.line-index l.nodes)
