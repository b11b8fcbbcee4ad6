use Rattle.std.proofs.Common.{List, sym, ◌∙◌, ap, subst}
use Rattle.std.specs.List.{list_any}
use Rattle.link_trace.specs.Order.{Ascends, by_link}
use Rattle.link_trace.specs.Passes.{is_link}
use Rattle.link_trace.specs.declared.lines.LinkLine.{LinkLine}
use Rattle.network_text.proofs.LinksAsked.{link_is_found}
use Rattle.network_text.proofs.ratio_line.has_link.Goals as goal

pub returns : goal.returns
returns c =
    let links = c.links.ensures.value in
    c.is_ok.ensures.value
    ∙ link_is_found c.links.result.now c.args.from c.args.to c.binary_search.result
    (subst (λ (ls : List LinkLine). Ascends by_link ls) (sym links) c.links.ensures.ascends) c.binary_search.ensures.bound c.binary_search.ensures.position
    ∙ ap (list_any (is_link c.args.from c.args.to)) links
