use Rattle.std.proofs.Common.{◌≡◌, ◌<◌, List, All, length, map, take, get_or, refl, subst, sym, ◌∙◌, arith}
use Rattle.std.proofs.lemmas.List.{take_all, length-map, get_or_default, take_more_set}
use Rattle.std.proofs.lemmas.List.Elements.{All-push}
use Rattle.plain_bus.specs.BusNodes.{BusNode, IsEarlyState, node_opened}
use Rattle.plain_bus.specs.SlotFloods.{seen_window, seen_of}
use Rattle.plain_bus.proofs.ListsInPlace.{same_place, one_more_mapped, one_more_changed, rest_unchanged}
use Rattle.plain_bus.proofs.slot_windows.open_all.Goals as goal

pub loop-node-preserved : goal.loop-node-preserved
loop-node-preserved c =
    let i = c.loop-node.node-index in
    let olds = c.args.nodes.now in
    let now = c.loop-node.nodes in
    let n : BusNode = get_or c.loop-node.nodes i c.node-item.result in
    let told = c.in_ok-open_into.ensures in
    let sees = seen_of c.args.rank c.args.frame c.args.part.now in
    let size = c.loop-node.auto.nodes in
    let below : i < length olds = omega (arith, c.loop-node-test.true, size) in
    let there : i < length now = omega (arith, c.loop-node-test.true, size) in
    let at : n ≡ get_or olds i n = same_place now olds i c.node-item.result c.loop-node.invariant.todo ∙ get_or_default olds i c.node-item.result n below in
    record {
      done = one_more_changed (node_opened c.args.rank c.args.frame c.args.part.now) olds now i n c.open_into.new.self below there at
          c.loop-node.invariant.done told.state;
      todo = rest_unchanged olds now i c.open_into.new.self c.loop-node.invariant.todo;
      early = subst (λ (l : List BusNode). All (λ (z : BusNode). IsEarlyState c.args.frame z.state) l) (sym (take_more_set now i c.open_into.new.self there))
          (All-push (λ (z : BusNode). IsEarlyState c.args.frame z.state) (take i now) c.open_into.new.self c.loop-node.invariant.early told.early);
      seen =
          told.seen ∙ one_more_mapped sees olds i n (map seen_window c.loop-node.windows.items) (sees n) below at c.loop-node.invariant.seen refl;
    }

pub open_into-requires-clause-early : goal.open_into-requires-clause-early
open_into-requires-clause-early c =
    let i = c.loop-node.node-index in
    let olds = c.args.nodes.now in
    let n : BusNode = get_or c.loop-node.nodes i c.node-item.result in
    let size = c.loop-node.auto.nodes in
    let below : i < length olds = omega (arith, c.loop-node-test.true, size) in
    let at : n ≡ get_or olds i n = same_place c.loop-node.nodes olds i c.node-item.result c.loop-node.invariant.todo
    ∙ get_or_default olds i c.node-item.result n below in
    subst (λ (x : BusNode). IsEarlyState c.args.frame x.state) (sym at) (c.requires.early i n below)

pub returns : goal.returns
returns c =
    let i = c.loop-node.node-index in
    let olds = c.args.nodes.now in
    let opens = node_opened c.args.rank c.args.frame c.args.part.now in
    let sees = seen_of c.args.rank c.args.frame c.args.part.now in
    let size = c.loop-node.auto.nodes in
    record {
      early = subst (λ (l : List BusNode). All (λ (z : BusNode). IsEarlyState c.args.frame z.state) l)
          (take_all i c.loop-node.nodes (omega (arith, c.loop-node-test.false, size))) c.loop-node.invariant.early;
      nodes = sym (take_all i c.loop-node.nodes (omega (arith, c.loop-node-test.false, size))) ∙ c.loop-node.invariant.done
          ∙ take_all i (map opens olds) (omega (arith, c.loop-node-test.false, size, length-map olds opens));
      windows = c.loop-node.invariant.seen ∙ take_all i (map sees olds) (omega (arith, c.loop-node-test.false, size, length-map olds sees));
    }
