use Rattle.std.proofs.Common.{◌<◌, ◌-◌, List, length, IfSome, sym, subst}
use Rattle.std.specs.List.{slice_get}
use Rattle.drawn_links.specs.RatioTables.{AreRising}
use Rattle.drawn_links.specs.declared.ratio_step.RatioStep.{RatioStep}
use Rattle.drawn_links.proofs.StepsInForce.{rising_more}
use Rattle.drawn_links.proofs.link_ratios.LinkRatios.add.Goals as goal

pub invariant_of-self-2 : goal.invariant_of-self-2
invariant_of-self-2 c =
    let steps = c.self.inside.steps.items in
    subst AreRising (sym c.in_ok-push.ensures.items)
    (rising_more steps c.args.step c.self.invariant
    (subst (λ (l : List RatioStep). IfSome (slice_get l (length l - 1)) (λ s. s.frame < c.args.step.frame)) (sym c.self.view_is) c.requires))
