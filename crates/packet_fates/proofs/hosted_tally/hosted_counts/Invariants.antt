use Rattle.std.proofs.Common.{◌≡◌, filter, flat_map, map, nat_lt, take}
use Rattle.packet_fates.specs.Hosted.{hosted_in}
use Rattle.packet_fates.proofs.hosted_tally.hosted_counts.Given as goal

abbrev pub invariant-loop-stream : goal.invariant-loop-stream
invariant-loop-stream l = l.counts.items
    ≡ flat_map (λ c. filter (λ h. nat_lt 0 h.count) (map (λ n. hosted_in l.tally c.node c.stream n.node) l.nodes)) (take l.stream-index l.streams)
