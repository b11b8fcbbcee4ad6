use Rattle.std.proofs.Common.{◌≡◌, ◌<◌, length, map, get_or, sym, ◌∙◌, arith}
use Rattle.std.proofs.lemmas.List.{take_all, length-map, get_or_default}
use Rattle.plain_bus.specs.BusNodes.{BusNode}
use Rattle.plain_bus.proofs.ListsInPlace.{same_place, one_more_changed, rest_unchanged}
use Rattle.bus_model.specs.FrameNodes.{with_round_rank}
use Rattle.bus_model.proofs.all_nodes.begin_all.Goals as goal

pub loop-node-preserved : goal.loop-node-preserved
loop-node-preserved c =
    let i = c.loop-node.node-index in
    let olds = c.args.nodes.now in
    let now = c.loop-node.nodes in
    let n : BusNode = get_or now i c.node-item.result in
    let size = c.loop-node.auto.nodes in
    let below : i < length olds = omega (arith, c.loop-node-test.true, size) in
    let there : i < length now = omega (arith, c.loop-node-test.true, size) in
    let at : n ≡ get_or olds i n = same_place now olds i c.node-item.result c.loop-node.invariant.todo ∙ get_or_default olds i c.node-item.result n below in
    record {
      done = one_more_changed with_round_rank olds now i n c.begin_rounds.new.self below there at c.loop-node.invariant.done c.begin_rounds.ensures;
      todo = rest_unchanged olds now i c.begin_rounds.new.self c.loop-node.invariant.todo;
    }

pub returns : goal.returns
returns c =
    let i = c.loop-node.node-index in
    let size = c.loop-node.auto.nodes in
    sym (take_all i c.loop-node.nodes (omega (arith, c.loop-node-test.false, size))) ∙ c.loop-node.invariant.done
    ∙ take_all i (map with_round_rank c.args.nodes.now) (omega (arith, c.loop-node-test.false, size, length-map c.args.nodes.now with_round_rank))
