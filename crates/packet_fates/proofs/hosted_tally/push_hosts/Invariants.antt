use Rattle.std.proofs.Common.{◌≡◌, ◌++◌, filter, map, nat_lt, take}
use Rattle.packet_fates.specs.Hosted.{hosted_in}
use Rattle.packet_fates.proofs.hosted_tally.push_hosts.Given as goal

abbrev pub invariant-loop-line : goal.invariant-loop-line
invariant-loop-line l = l.counts.items ≡ l.fn.counts.items
    ++ filter (λ h. nat_lt 0 h.count) (map (λ n. hosted_in l.tally l.stream.node l.stream.stream n.node) (take l.line-index l.nodes))
