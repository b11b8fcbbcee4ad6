use Rattle.std.proofs.Common.{◌≤◌, ◌<◌, List, length, sym, subst}
use Rattle.lwb_base.specs.declared.limits.TheConstants.{MOST_NODES}
use Rattle.scenario_text.specs.FloodDrafts.{Rises}
use Rattle.scenario_text.specs.declared.lines.NodeLine.{NodeLine}
use Rattle.scenario_text.proofs.EachPair.{pairs_climb}
use Rattle.scenario_text.proofs.OrderedParts.{in_order_said}
use Rattle.scenario_text.proofs.added_lines.sealed_trace.Goals as goal

pub seal-requires-clause-rises : goal.seal-requires-clause-rises
seal-requires-clause-rises c =
    let s = c.args.s.now in
    subst Rises (sym c.nodes.ensures.value) (pairs_climb (λ a b. a.node < b.node) s.nodes (in_order_said s c.nodes.ensures.said).nodes_ascend)

pub seal-requires-clause-two : goal.seal-requires-clause-two
seal-requires-clause-two c =
    subst (λ (ns : List NodeLine). 2 ≤ length ns) (sym c.nodes.ensures.value) (in_order_said c.args.s.now c.nodes.ensures.said).node_count.0

pub seal-requires-clause-few : goal.seal-requires-clause-few
seal-requires-clause-few c =
    subst (λ (ns : List NodeLine). length ns ≤ MOST_NODES) (sym c.nodes.ensures.value) (in_order_said c.args.s.now c.nodes.ensures.said).node_count.1
