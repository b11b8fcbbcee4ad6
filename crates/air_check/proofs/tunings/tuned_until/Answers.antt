use Rattle.std.proofs.Common.{rules, arith}
use Rattle.std.proofs.lemmas.List.Sorted.{IsPartitionPoint-from_clause}
use Rattle.air_check.specs.Tunings.{begins_by}
use Rattle.air_check.proofs.TunedTimes.{parted, none_begun, until_is}
use Rattle.air_check.proofs.tunings.tuned_until.Goals as goal

pub returns-then-begun-eq0-clause-until : goal.returns-then-begun-eq0-clause-until
returns-then-begun-eq0-clause-until c =
    λ a are.
    let es = c.args.tuned.now in
    let begun = c.partition_point-begun.result in
    none_begun c.args.node c.args.rank c.args.t a es are begun c.partition_point-begun.ensures.bound
    (IsPartitionPoint-from_clause (begins_by c.args.node c.args.rank c.args.t) es begun c.partition_point-begun.ensures.partitioned
    (parted c.args.node c.args.rank c.args.t es are.in_order) (λ b r g called. search rules)) c.if-begun-eq0.true

pub returns-clause-until : goal.returns-clause-until
returns-clause-until c =
    λ a are.
    let es = c.args.tuned.now in
    let begun = c.partition_point-begun.result in
    until_is c.args.node c.args.rank c.args.t a es are begun c.partition_point-begun.ensures.bound
    (IsPartitionPoint-from_clause (begins_by c.args.node c.args.rank c.args.t) es begun c.partition_point-begun.ensures.partitioned
    (parted c.args.node c.args.rank c.args.t es are.in_order) (λ b r g called. search rules))
    c.index-tuned-begun.result (omega (arith, c.if-begun-eq0.false)) c.index-tuned-begun.is c.until_by.result c.until_by.ensures.some c.until_by.ensures.none
