use Rattle.std.proofs.Common.{◌≡◌, ◌-◌, nat_lt, length, take, drop, arith, rules, length-drop}
use Rattle.std.proofs.lemmas.List.{take_all}
use Rattle.std.proofs.lemmas.List.Sorted.{IsPartitionPoint-from_clause}
use Rattle.radio_model.specs.OnAir.{Sending}
use Rattle.radio_model.proofs.OverlapWindows.{starts_before, rest_starts_before, are_near}
use Rattle.radio_model.proofs.near.near_places.Goals as goal

pub returns-clause-near : goal.returns-clause-near
returns-clause-near c =
    let sent = c.args.sent.now in
    let x = c.args.x.now in
    let first = c.partition_point-first.result in
    let count = c.partition_point-count.result in
    let earliest = c.saturating_sub-earliest.result in
    let begin = IsPartitionPoint-from_clause (λ (y : Sending). nat_lt y.start earliest) sent first c.partition_point-first.ensures.partitioned
    (starts_before sent earliest c.requires.in_order) (λ a r g called. search rules) in
    let rest : take (length sent - first) (drop first sent) ≡ drop first sent =
    take_all (length sent - first) (drop first sent) (omega (arith, length-drop first sent)) in
    let end = IsPartitionPoint-from_clause (λ (y : Sending). nat_lt y.start x.end) (take (length sent - first) (drop first sent)) count
    c.partition_point-count.ensures.partitioned (rw rest (rest_starts_before sent x.end first c.requires.in_order)) (λ a r g called. search rules) in
    are_near sent c.args.longest x c.requires.in_order c.requires.longest earliest first count c.partition_point-first.ensures.bound
    (rw rest at c.partition_point-count.ensures.bound) (omega (arith, c.saturating_sub-earliest.ensures)) begin (rw rest at end)
