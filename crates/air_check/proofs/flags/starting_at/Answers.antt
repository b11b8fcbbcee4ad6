use Rattle.std.proofs.Common.{nat_lt, arith, rules, ap, ◌∙◌}
use Rattle.std.proofs.lemmas.List.Sorted.{IsPartitionPoint-from_clause}
use Rattle.radio_model.specs.OnAir.{Sending}
use Rattle.radio_model.proofs.Members.{same_default}
use Rattle.radio_model.proofs.OverlapWindows.{starts_before}
use Rattle.air_check.proofs.SameStart.{up_to_all, up_to_other}
use Rattle.air_check.proofs.flags.starting_at.Goals as goal

pub returns-after-loop-end-clause-all : goal.returns-after-loop-end-clause-all
returns-after-loop-end-clause-all c =
    let sent = c.args.sent.now in
    let t = c.args.t in
    let begin = c.partition_point-begin.result in
    up_to_all sent c.requires t begin c.loop-end.end
    (IsPartitionPoint-from_clause (λ (y : Sending). nat_lt y.start t) sent begin c.partition_point-begin.ensures.partitioned
    (starts_before sent t c.requires) (λ a r g called. search rules)) c.loop-end.invariant.from (omega (arith, c.loop-end-test.false))

pub returns-else-sent-end-clause-all : goal.returns-else-sent-end-clause-all
returns-else-sent-end-clause-all c =
    let sent = c.args.sent.now in
    let t = c.args.t in
    let begin = c.partition_point-begin.result in
    let more = c.loop-end-test.true in
    up_to_other sent c.requires t begin c.loop-end.end
    (IsPartitionPoint-from_clause (λ (y : Sending). nat_lt y.start t) sent begin c.partition_point-begin.ensures.partitioned
    (starts_before sent t c.requires) (λ a r g called. search rules)) c.loop-end.invariant.from more
    (λ d is. c.if-sent-end.false (ap (λ (y : Sending). y.start) (same_default sent c.loop-end.end _ d more) ∙ is))
