use Rattle.std.proofs.Common.{◌<◌, ◌≡◌, ◌∙◌, map, ap}
use Rattle.std.specs.List.{fold}
use Rattle.link_trace.specs.Passes.{Lines}
use Rattle.link_trace.specs.Sealed.{Traced}
use Rattle.scenario_text.specs.PartsInOrder.{IsInOrder}
use Rattle.scenario_text.specs.declared.lines.NodeLine.{NodeLine}
use Rattle.scenario_text.proofs.EachPair.{pairs_climb}
use Rattle.scenario_text.proofs.NodeIds.{nodes_seal}
use Rattle.scenario_text.proofs.OrderedParts.{in_order_said}
use Rattle.added_losses.specs.LossesAdded.{with_new_line}
use Rattle.added_losses.proofs.losses.trace_with.Goals as goal

pub seal-requires : goal.seal-requires
seal-requires c =
    let s = c.args.s.now in
    let is : IsInOrder s = in_order_said s c.nodes.ensures.said in
    nodes_seal s.nodes c.deref.result.now (pairs_climb (λ a b. a.node < b.node) s.nodes is.nodes_ascend) is.node_count.0 is.node_count.1
    (c.deref.ensures.value ∙ c.in_ok-ids.ensures ∙ ap (map (λ (n : NodeLine). n.node)) c.nodes.ensures.value)

pub returns-clause-lines : goal.returns-clause-lines
returns-clause-lines c =
    let copied : c.in_ok-trace.trace.lines ≡ c.args.s.now.trace = ap (λ (t : Traced). t.lines) c.in_ok-trace.ensures ∙ c.trace.ensures.value in
    let more : Lines → Lines = λ t. record t { losses = fold with_new_line t.losses c.args.lines.now } in
    ap (λ (t : Traced). t.lines) c.in_ok-seal.ensures.sealed ∙ c.in_ok-add_losses.ensures ∙ ap more copied
