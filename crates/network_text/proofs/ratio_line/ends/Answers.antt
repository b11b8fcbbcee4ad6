use Rattle.std.proofs.Common.{ap, ◌∙◌}
use Rattle.network_text.proofs.NetworkNodes.{both_there, found_in}
use Rattle.network_text.proofs.ratio_line.ends.Goals as goal

pub returns-clause-from : goal.returns-clause-from
returns-clause-from c =
    (both_there c.args.s.now.nodes c.args.ratios.now.nodes c.requires c.args.from c.args.to c.two_nodes.result
    (c.two_nodes.ensures ∙ ap (found_in c.args.from c.args.to) c.nodes.ensures.value)).0

pub returns-clause-to : goal.returns-clause-to
returns-clause-to c =
    (both_there c.args.s.now.nodes c.args.ratios.now.nodes c.requires c.args.from c.args.to c.two_nodes.result
    (c.two_nodes.ensures ∙ ap (found_in c.args.from c.args.to) c.nodes.ensures.value)).1
