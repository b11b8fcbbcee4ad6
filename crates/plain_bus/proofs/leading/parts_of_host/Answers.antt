use Rattle.std.proofs.Common.{List, Option, Some, sym, ◌∙◌, ap}
use Rattle.std.specs.Option.{option_map}
use Rattle.bus_rules.specs.declared.part.Part.{Part}
use Rattle.plain_bus.specs.BusNodes.{BusNode}
use Rattle.plain_bus.specs.Leaders.{leads, parts_at}
use Rattle.plain_bus.proofs.RoundsLed.{none_more, found_at}
use Rattle.plain_bus.proofs.leading.parts_of_host.Goals as goal

pub loop-node-preserved : goal.loop-node-preserved
loop-node-preserved c =
    let test = leads c.args.rank c.args.frame in
    none_more test c.args.nodes.now c.loop-node.node-index c.node-item.result c.loop-node-test.true c.loop-node.invariant
    (ap test (sym c.node-item.is) ∙ sym c.leads.ensures ∙ c.if-leads.false)

pub returns-then-leads-clause-parts : goal.returns-then-leads-clause-parts
returns-then-leads-clause-parts c =
    let test = leads c.args.rank c.args.frame in
    let some : List Part → Option (List Part) = λ l. Some l in
    ap some c.in_ok-parts.ensures.parts ∙ ap (λ (n : BusNode). some (parts_at n)) c.node-item.is
    ∙ sym (ap (option_map parts_at) (found_at test c.args.nodes.now c.loop-node.node-index c.node-item.result c.loop-node-test.true c.loop-node.invariant
    (ap test (sym c.node-item.is) ∙ sym c.leads.ensures ∙ c.if-leads.true)))
