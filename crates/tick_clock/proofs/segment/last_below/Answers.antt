use Rattle.std.proofs.Common.{rules}
use Rattle.std.proofs.lemmas.List.Sorted.{IsPartitionPoint-from_clause, IsPartitionedBy-ltb}
use Rattle.tick_clock.specs.Segments.{counts_less}
use Rattle.tick_clock.proofs.Walks.{splits_from, counts_rise}
use Rattle.tick_clock.proofs.segment.last_below.Goals as goal

pub returns : goal.returns
returns c =
    let xs = c.args.segments.now in
    let wanted = c.args.wanted in
    let n = c.partition_point.result in
    let point = IsPartitionPoint-from_clause (counts_less wanted) xs n c.partition_point.ensures.partitioned
    (IsPartitionedBy-ltb (λ s. s.count) xs wanted (counts_rise xs c.requires)) (λ a r f' k. search rules) in
    (n, splits_from (counts_less wanted) xs n c.partition_point.ensures.bound point.0 point.1, c.segment_before.ensures)
