use Rattle.std.proofs.Common.{List, Option, Some, sym, ◌∙◌, ap}
use Rattle.std.specs.Option.{option_map}
use Rattle.bus_rules.specs.declared.part.Part.{Part}
use Rattle.plain_bus.specs.BusNodes.{BusNode}
use Rattle.plain_bus.specs.Leaders.{holds, parts_at}
use Rattle.plain_bus.proofs.RoundsLed.{none_more, found_at}
use Rattle.plain_bus.proofs.leading.parts_of_holder.Goals as goal

pub loop-node-preserved : goal.loop-node-preserved
loop-node-preserved c =
    let test = holds c.args.rank c.args.frame in
    none_more test c.args.nodes.now c.loop-node.node-index c.node-item.result c.loop-node-test.true c.loop-node.invariant
    (ap test (sym c.node-item.is) ∙ sym c.holds.ensures ∙ c.if-holds.false)

pub returns-then-holds-clause-parts : goal.returns-then-holds-clause-parts
returns-then-holds-clause-parts c =
    let test = holds c.args.rank c.args.frame in
    let some : List Part → Option (List Part) = λ l. Some l in
    ap some c.in_ok-parts.ensures.parts ∙ ap (λ (n : BusNode). some (parts_at n)) c.node-item.is
    ∙ sym (ap (option_map parts_at) (found_at test c.args.nodes.now c.loop-node.node-index c.node-item.result c.loop-node-test.true c.loop-node.invariant
    (ap test (sym c.node-item.is) ∙ sym c.holds.ensures ∙ c.if-holds.true)))
