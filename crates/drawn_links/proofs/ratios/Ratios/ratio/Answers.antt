use Rattle.std.proofs.Common.{List, get_or, ◌∙◌, ap}
use Rattle.drawn_links.specs.RatioTables.{ratio_by}
use Rattle.drawn_links.specs.declared.ratio_step.RatioStep.{RatioStep}
use Rattle.drawn_links.proofs.LinksKept.{ratio_is}
use Rattle.drawn_links.proofs.ratios.Ratios.ratio.Goals as goal

pub returns : goal.returns
returns c =
    let s = c.args.self.now in
    c.ratio.ensures ∙ ap (λ (steps : List RatioStep). ratio_by steps c.args.frame) c.link.ensures
    ∙ ratio_is s.lines (get_or s.nodes c.args.from 0) (get_or s.nodes c.args.to 0) c.args.frame
