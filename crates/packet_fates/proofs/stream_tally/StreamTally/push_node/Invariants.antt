use Rattle.std.proofs.Common.{◌≡◌, ◌++◌, filter, map, nat_lt, take}
use Rattle.bus_terms.specs.Fates.{streams}
use Rattle.packet_fates.specs.Counts.{tally_at}
use Rattle.packet_fates.proofs.stream_tally.StreamTally.push_node.Given as goal

abbrev pub invariant-loop-stream : goal.invariant-loop-stream
invariant-loop-stream l = l.counts.items ≡ l.fn.counts.items ++ filter (λ c. nat_lt 0 c.put) (map (tally_at l.self l.node) (take l.stream-index streams))
