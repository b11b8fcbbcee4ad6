use Rattle.std.proofs.Common.{map, ap, arith, sym, ◌∙◌, subst}
use Rattle.link_trace.specs.Masks.{AreNodes}
use Rattle.link_trace.specs.Sealed.{Traced}
use Rattle.scenario_text.specs.Canonical.{IsSaid}
use Rattle.scenario_text.specs.declared.lines.NodeLine.{NodeLine}
use Rattle.scenario_maker.specs.Made.{all_nodes}
use Rattle.scenario_maker.proofs.MadeInOrder.{is_said}
use Rattle.scenario_maker.proofs.PartsMade.{nodes_to_seal, ids_of_lines, made_is}
use Rattle.scenario_maker.proofs.maker.made.Goals as goal

pub seal-requires : goal.seal-requires
seal-requires c =
    let few = nodes_to_seal c.args.nodes (omega (arith, c.requires.nodes.0)) c.requires.nodes.1 in
    subst AreNodes (sym (c.deref.ensures.value ∙ c.in_ok-ids.ensures ∙ ap all_nodes c.from-count.ensures)) few

pub of_parts-requires-clause-said : goal.of_parts-requires-clause-said
of_parts-requires-clause-said c =
    subst IsSaid (sym (
    made_is c.args.seed c.args.nodes c.args.frames c.from-count.result c.of_seed-draws.result c.clocks.new.draws c.add_tree.new.draws
    c.add_random_pairs.new.draws c.script.new.draws c.one.result
    c.in_ok-lines.lines.items c.in_ok-lines.rates.items c.in_ok-hosts.hosts.items c.new-trace.result.lines c.add_tree.new.trace.lines
    c.add_random_pairs.new.trace.lines c.seal.new.self.lines
    c.in_ok-script.script.items c.from-count.ensures
    (omega (arith, c.from-count.ensures, c.requires.nodes.0)) c.of_seed-draws.ensures c.in_ok-lines.ensures.left c.in_ok-add_tree.ensures.left
    c.in_ok-add_random_pairs.ensures.left c.in_ok-script.ensures.left c.one.ensures c.in_ok-lines.ensures.nodes c.in_ok-lines.ensures.rates
    c.in_ok-hosts.ensures (ap (λ (t : Traced). t.lines) c.new-trace.ensures)
    c.in_ok-add_tree.ensures.links c.in_ok-add_random_pairs.ensures.links c.in_ok-script.ensures.lines
    (ap (λ (t : Traced). t.lines) c.in_ok-seal.ensures.sealed ∙ c.in_ok-add_losses.ensures)))
    (is_said c.args.seed c.args.nodes c.args.frames c.requires)

pub of_parts-requires-clause-sealed : goal.of_parts-requires-clause-sealed
of_parts-requires-clause-sealed c =
    ap (λ (t : Traced). t.nodes) c.in_ok-seal.ensures.sealed ∙ c.deref.ensures.value ∙ c.in_ok-ids.ensures ∙ sym
    (ids_of_lines c.of_seed-draws.result 1 c.from-count.result)
    ∙ ap (map (λ (n : NodeLine). n.node)) (sym c.in_ok-lines.ensures.nodes)

pub returns : goal.returns
returns c =
    c.of_parts.ensures
    ∙ made_is c.args.seed c.args.nodes c.args.frames c.from-count.result c.of_seed-draws.result c.clocks.new.draws c.add_tree.new.draws
    c.add_random_pairs.new.draws c.script.new.draws c.one.result
    c.in_ok-lines.lines.items c.in_ok-lines.rates.items c.in_ok-hosts.hosts.items c.new-trace.result.lines c.add_tree.new.trace.lines
    c.add_random_pairs.new.trace.lines c.seal.new.self.lines
    c.in_ok-script.script.items c.from-count.ensures
    (omega (arith, c.from-count.ensures, c.requires.nodes.0)) c.of_seed-draws.ensures c.in_ok-lines.ensures.left c.in_ok-add_tree.ensures.left
    c.in_ok-add_random_pairs.ensures.left c.in_ok-script.ensures.left c.one.ensures c.in_ok-lines.ensures.nodes c.in_ok-lines.ensures.rates
    c.in_ok-hosts.ensures (ap (λ (t : Traced). t.lines) c.new-trace.ensures)
    c.in_ok-add_tree.ensures.links c.in_ok-add_random_pairs.ensures.links c.in_ok-script.ensures.lines
    (ap (λ (t : Traced). t.lines) c.in_ok-seal.ensures.sealed ∙ c.in_ok-add_losses.ensures)
