use Rattle.std.proofs.Common.{get_or, ap, subst}
use Rattle.link_trace.specs.Masks.{HasAll}
use Rattle.link_trace.specs.Passes.{passes}
use Rattle.link_trace.specs.Sealed.{Traced}
use Rattle.drawn_links.specs.Drawings.{Drawing}
use Rattle.drawn_links.proofs.KeptBits.{more_to_it}
use Rattle.drawn_links.proofs.drawn_links.DrawnLinksLinks.may_reach.Goals as goal

pub returns : goal.returns
returns c =
    let d = c.args.self.now in
    more_to_it d.trace.lines d.ratios d.seed d.frames c.args.frame c.args.slot c.args.step d.trace.nodes (get_or d.trace.nodes c.args.at 0) c.may_reach.result
    (subst (λ (t : Traced). HasAll (λ u. passes t.lines c.args.frame c.args.slot c.args.step u (get_or t.nodes c.args.at 0)) t.nodes c.may_reach.result)
    (ap (λ (x : Drawing). x.trace) c.self.view_is) c.may_reach.ensures)
