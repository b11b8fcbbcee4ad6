use Rattle.std.proofs.Common.{◌≡◌, ◌<◌, ◌++◌, ℕ, List, All, Option, length, take, get_or, filter_map, subst, sym}
use Rattle.std.proofs.Common.{◌∙◌, ap, arith, ◌+◌}
use Rattle.std.specs.Option.{option_and_then, option_copied}
use Rattle.std.proofs.lemmas.List.{take_all, length-map, get_or_default, take_more_set}
use Rattle.std.proofs.lemmas.List.Elements.{All-push}
use Rattle.bus_rules.specs.Slots.{Message}
use Rattle.lwb_member.specs.Said.{message_of}
use Rattle.plain_bus.specs.BusNodes.{BusNode, IsEarlyState}
use Rattle.plain_bus.specs.Closings.{delivers_node}
use Rattle.plain_bus.proofs.ListsInPlace.{same_place, rest_unchanged}
use Rattle.plain_bus.proofs.ClosedBehind.{closed_more, delivered_more, origin_here, may_here}
use Rattle.plain_bus.proofs.closing.close_all.Goals as goal

pub hear-requires-clause-early : goal.hear-requires-clause-early
hear-requires-clause-early c =
    let i = c.loop-node.node-index in
    let olds = c.args.nodes.now in
    let n : BusNode = get_or c.loop-node.nodes i c.node-item.result in
    let size = c.loop-node.auto.nodes in
    let below : i < length olds = omega (arith, c.loop-node-test.true, size) in
    let at : n ≡ get_or olds i n = same_place c.loop-node.nodes olds i c.node-item.result c.loop-node.invariant.todo
    ∙ get_or_default olds i c.node-item.result n below in
    subst (λ (x : BusNode). IsEarlyState c.args.slot.now.frame x.state) (sym at) (c.requires.early i n below)

pub loop-node-preserved : goal.loop-node-preserved
loop-node-preserved c =
    let i = c.loop-node.node-index in
    let olds = c.args.nodes.now in
    let now = c.loop-node.nodes in
    let ws = c.args.windows.now in
    let xs = c.args.stations.now in
    let f = c.args.slot.now.frame in
    let part = c.args.slot.now.part in
    let n : BusNode = get_or now i c.node-item.result in
    let y = c.hear.new.self in
    let w = c.index-windows-place.result in
    let x = c.index-stations-place.result in
    let h : Option Message = option_and_then message_of (option_copied c.heard_by-packet.result) in
    let size = c.loop-node.auto.nodes in
    let place = c.loop-node.invariant.place in
    let ids = c.args.ids.now in
    let below : i < length olds = omega (arith, c.loop-node-test.true, size) in
    let there : i < length now = omega (arith, c.loop-node-test.true, size) in
    let in_ws : i < length ws = omega (arith, below, c.requires.windows) in
    let in_xs : i < length xs = omega (arith, below, c.requires.stations) in
    let at : n ≡ get_or olds i n = same_place now olds i c.node-item.result c.loop-node.invariant.todo ∙ get_or_default olds i c.node-item.result n below in
    let w_at : w ≡ get_or ws i w = c.index-windows-place.is ∙ ap (λ (k : ℕ). get_or ws k w) place in
    let x_at : x ≡ get_or xs i x = c.index-stations-place.is ∙ ap (λ (k : ℕ). get_or xs k x) place in
    let same : length ws ≡ length xs = c.requires.windows ∙ sym c.requires.stations in
    record {
      place = ap (λ (k : ℕ). k + 1) place;
      done = λ b g behind are may.
          (let heard = c.heard_by-packet.ensures b behind.windows (origin_here b ids ws xs behind same g olds are f may i in_xs w w_at x x_at n at) in
          closed_more b ids ws xs behind same g olds are f may i in_xs w w_at x x_at n at h heard f part now y there
          (c.in_ok-hear.ensures.state (may_here b ids ws xs behind same g olds are f may i in_xs w w_at x x_at n at h heard))
          (c.loop-node.invariant.done b g behind are may));
      todo = rest_unchanged olds now i y c.loop-node.invariant.todo;
      log = λ b g behind are may.
          (let heard = c.heard_by-packet.ensures b behind.windows (origin_here b ids ws xs behind same g olds are f may i in_xs w w_at x x_at n at) in
          delivered_more b ids ws xs behind same g olds are f may i in_xs w w_at x x_at n at h heard c.args.slot.now.rank f c.args.slot.now.number part
          c.args.log.now.items c.loop-node.log.items c.hear.new.log.items (c.loop-node.invariant.log b g behind are may)
          (c.in_ok-hear.ensures.log (may_here b ids ws xs behind same g olds are f may i in_xs w w_at x x_at n at h heard)));
      early = subst (λ (l : List BusNode). All (λ (z : BusNode). IsEarlyState f z.state) l) (sym (take_more_set now i y there))
          (All-push (λ (z : BusNode). IsEarlyState f z.state) (take i now) y c.loop-node.invariant.early c.in_ok-hear.ensures.early);
    }

pub returns-clause-early : goal.returns-clause-early
returns-clause-early c =
    subst (λ (l : List BusNode). All (λ (z : BusNode). IsEarlyState c.args.slot.now.frame z.state) l)
    (take_all c.loop-node.node-index c.loop-node.nodes (let size = c.loop-node.auto.nodes in omega (arith, c.loop-node-test.false, size)))
    c.loop-node.invariant.early

pub returns-clause-log : goal.returns-clause-log
returns-clause-log c b n behind are may =
    let ids = c.args.ids.now in
    let g = delivers_node b c.args.slot.now.rank c.args.slot.now.frame c.args.slot.now.number c.args.slot.now.part n in
    let size = c.loop-node.auto.nodes in
    c.loop-node.invariant.log b n behind are may
    ∙ ap (λ (l : List ℕ). c.args.log.now.items ++ filter_map g l)
    (take_all c.loop-node.node-index ids (omega (arith, c.loop-node-test.false, size, ap length are, length-map ids n)))
