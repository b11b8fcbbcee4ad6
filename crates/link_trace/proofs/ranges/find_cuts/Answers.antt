use Rattle.std.proofs.Common.{◌≡◌, ◌-◌, nat_lt, length, take, drop, arith, rules, length-drop}
use Rattle.std.proofs.lemmas.List.{take_all}
use Rattle.std.proofs.lemmas.List.Sorted.{IsPartitionPoint-from_clause}
use Rattle.link_trace.specs.declared.lines.CutLine.{CutLine}
use Rattle.link_trace.specs.Passes.{cuts_by}
use Rattle.link_trace.proofs.Together.{first_cuts, next_cuts, cuts_are}
use Rattle.link_trace.proofs.ranges.find_cuts.Goals as goal

pub returns : goal.returns
returns c =
    let f = c.args.frame in
    let j = c.args.slot in
    let k = c.args.step in
    let cuts = c.args.cuts.now in
    let m = c.partition_point-begin.result in
    let n = c.partition_point-count.result in
    let first = IsPartitionPoint-from_clause (λ (l : CutLine). nat_lt l.frame f) cuts m c.partition_point-begin.ensures.partitioned
    (first_cuts f j k cuts c.requires) (λ a r g called. search rules) in
    let rest : take (length cuts - m) (drop m cuts) ≡ drop m cuts = take_all (length cuts - m) (drop m cuts) (omega (arith, length-drop m cuts)) in
    let next = IsPartitionPoint-from_clause (cuts_by f j k) (take (length cuts - m) (drop m cuts)) n
    c.partition_point-count.ensures.partitioned (rw rest (next_cuts f j k cuts c.requires m first.1)) (λ a r g called. search rules) in
    cuts_are f j k cuts c.requires m n c.partition_point-begin.ensures.bound (rw rest at c.partition_point-count.ensures.bound) first (rw rest at next)
