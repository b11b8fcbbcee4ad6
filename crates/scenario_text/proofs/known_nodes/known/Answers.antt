use Rattle.std.proofs.Common.{Option, sym, ◌∙◌, ap, Bor}
use Rattle.std.specs.Option.{option_copied, option_map}
use Rattle.scenario_text.specs.declared.lines.NodeLine.{NodeLine}
use Rattle.lwb_base.specs.declared.node.NodeId.{NodeId}
use Rattle.scenario_text.proofs.Known.{found_is_known}
use Rattle.scenario_text.proofs.known_nodes.known.Goals as goal

abbrev node_of : Option NodeLine → Option NodeId
node_of o = option_map (λ (n : NodeLine). n.node) o

pub returns-in_err-line : goal.returns-in_err-line
returns-in_err-line c =
    c.from_residual.ensures
    ∙ ap (λ (o : Option (Bor NodeLine)). node_of (option_copied o)) (sym (c.in_err-line.was))
    ∙ ap node_of c.find_line.ensures
    ∙ found_is_known c.args.nodes.now c.args.id

pub returns : goal.returns
returns c =
    ap (λ (o : Option (Bor NodeLine)). node_of (option_copied o)) (sym (c.in_ok-line.was))
    ∙ ap node_of c.find_line.ensures
    ∙ found_is_known c.args.nodes.now c.args.id
