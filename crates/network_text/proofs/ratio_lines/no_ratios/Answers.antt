use Rattle.std.proofs.Common.{◌∙◌, sym, subst, ap, map}
use Rattle.link_trace.specs.Masks.{AreNodes}
use Rattle.scenario_text.specs.FloodParts.{node_id}
use Rattle.network_text.proofs.NetworkNodes.{ids_are_nodes}
use Rattle.network_text.proofs.ratio_lines.no_ratios.Goals as goal

pub new-requires : goal.new-requires
new-requires c =
    subst AreNodes (sym (c.deref.ensures.value ∙ c.in_ok-nodes.ensures ∙ ap (map node_id) c.nodes.ensures.value))
    (ids_are_nodes c.args.s.now c.nodes.ensures.said)
