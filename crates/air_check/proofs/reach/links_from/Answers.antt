use Rattle.std.proofs.Common.{◌≡◌, ◌-◌, nat_lt, nat_le, length, take, drop, arith, rules, length-drop}
use Rattle.std.proofs.lemmas.List.{take_all}
use Rattle.std.proofs.lemmas.List.Sorted.{IsPartitionPoint-from_clause}
use Rattle.link_trace.specs.declared.lines.LinkLine.{LinkLine}
use Rattle.air_check.proofs.LinksFound.{before, rest_up_to, have_links}
use Rattle.air_check.proofs.reach.links_from.Goals as goal

pub returns : goal.returns
returns c =
    let links = c.args.links.now in
    let u = c.args.node in
    let first = c.partition_point-first.result in
    let count = c.partition_point-count.result in
    let begin = IsPartitionPoint-from_clause (λ (l : LinkLine). nat_lt l.from u) links first c.partition_point-first.ensures.partitioned
    (before links u c.requires) (λ a r g called. search rules) in
    let rest : take (length links - first) (drop first links) ≡ drop first links = take_all (length links - first) (drop first links)
    (omega (arith, length-drop first links)) in
    let end = IsPartitionPoint-from_clause (λ (l : LinkLine). nat_le l.from u) (take (length links - first) (drop first links)) count
    c.partition_point-count.ensures.partitioned (rw rest (rest_up_to links u c.requires first)) (λ a r g called. search rules) in
    let few = rw rest at c.partition_point-count.ensures.bound in
    rw rest (have_links links u c.requires first count c.partition_point-first.ensures.bound few begin (rw rest at end))
