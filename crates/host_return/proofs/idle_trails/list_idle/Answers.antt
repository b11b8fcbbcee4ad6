use Rattle.std.proofs.Common.{◌++◌, List, Option, filter_map, option_to_list, take, sym, ◌∙◌, ap, arith}
use Rattle.std.proofs.lemmas.List.{append_assoc, take_all}
use Rattle.lwb_base.proofs.Lists.{filter_map_more}
use Rattle.air_log.specs.declared.idle.Idle.{Idle}
use Rattle.host_return.specs.TrailsInOrder.{idle_told}
use Rattle.host_return.specs.declared.idle_trails.NodeTrail.{NodeTrail}
use Rattle.host_return.proofs.idle_trails.list_idle.Goals as goal

pub loop-one-preserved : goal.loop-one-preserved
loop-one-preserved c =
    let f = c.args.frame in
    let i = c.loop-one.one-index in
    let all = c.args.trails.now in
    let n : NodeTrail = c.one-item.result in
    let base = c.args.idle.now.items in
    c.in_ok-push_some.ensures
    ∙ ap (λ (l : List Idle). l ++ option_to_list c.idle_node.result) c.loop-one.invariant
    ∙ ap (λ (o : Option Idle). (base ++ filter_map (idle_told f) (take i all)) ++ option_to_list o) c.idle_node.ensures
    ∙ append_assoc base _ _
    ∙ ap (λ (l : List Idle). base ++ l) (sym (filter_map_more (idle_told f) all i n c.loop-one-test.true c.one-item.is))

pub returns : goal.returns
returns c =
    let all = c.args.trails.now in
    let i = c.loop-one.one-index in
    let over = c.loop-one-test.false in
    c.loop-one.invariant ∙ ap (λ (l : List NodeTrail). c.args.idle.now.items ++ filter_map (idle_told c.args.frame) l) (take_all i all (omega (arith, over)))
