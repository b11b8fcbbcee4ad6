use Rattle.std.proofs.Common.{rules}
use Rattle.std.proofs.lemmas.List.Sorted.{IsPartitionPoint-from_clause, IsPartitionedBy-leb}
use Rattle.tick_clock.specs.Segments.{has_begun}
use Rattle.tick_clock.proofs.Walks.{splits_from, starts_rise}
use Rattle.tick_clock.proofs.segment.last_begun.Goals as goal

pub returns : goal.returns
returns c =
    let xs = c.args.segments.now in
    let t = c.args.t in
    let n = c.partition_point.result in
    let point = IsPartitionPoint-from_clause (has_begun t) xs n c.partition_point.ensures.partitioned
    (IsPartitionedBy-leb (λ s. s.start) xs t (starts_rise xs c.requires)) (λ a r f' k. search rules) in
    (n, splits_from (has_begun t) xs n c.partition_point.ensures.bound point.0 point.1, c.segment_before.ensures)
