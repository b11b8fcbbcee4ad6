use Rattle.std.proofs.Common.{◌≡◌, ◌-◌, nat_lt, length, take, drop, arith, rules, length-drop}
use Rattle.std.proofs.lemmas.List.{take_all}
use Rattle.std.proofs.lemmas.List.Sorted.{IsPartitionPoint-from_clause}
use Rattle.radio_model.specs.declared.sending.Sending.{Sending}
use Rattle.radio_model.proofs.OverlapWindows.{starts_before}
use Rattle.host_return.proofs.Since.{all_since, none_before}
use Rattle.host_return.proofs.transmissions.since.Goals as goal

pub returns-clause-all : goal.returns-clause-all
returns-clause-all c =
    let sent = c.args.sent.now in
    let first = c.partition_point-first.result in
    let start = c.args.start in
    let rest : take (length sent - first) (drop first sent) ≡ drop first sent =
    take_all (length sent - first) (drop first sent) (omega (arith, length-drop first sent)) in
    let begin = IsPartitionPoint-from_clause (λ (y : Sending). nat_lt y.start start) sent first c.partition_point-first.ensures.partitioned
    (starts_before sent start c.requires) (λ a r g called. search rules) in
    rw rest (all_since sent start first c.partition_point-first.ensures.bound begin)

pub returns-clause-from : goal.returns-clause-from
returns-clause-from c =
    let sent = c.args.sent.now in
    let first = c.partition_point-first.result in
    let start = c.args.start in
    let rest : take (length sent - first) (drop first sent) ≡ drop first sent =
    take_all (length sent - first) (drop first sent) (omega (arith, length-drop first sent)) in
    let begin = IsPartitionPoint-from_clause (λ (y : Sending). nat_lt y.start start) sent first c.partition_point-first.ensures.partitioned
    (starts_before sent start c.requires) (λ a r g called. search rules) in
    rw rest (none_before sent start first c.partition_point-first.ensures.bound begin)
