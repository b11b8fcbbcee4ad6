use Rattle.std.proofs.Common.{◌≡◌, ℕ, ◌*◌, List, [], replicate, ◌∙◌, ap, arith}
use Rattle.lwb_base.specs.declared.limits.TheConstants.{MOST_NODES}
use Rattle.drawn_links.specs.declared.ratio_step.RatioStep.{RatioStep}
use Rattle.drawn_links.proofs.ratios.no_ratios.Goals as goal

pub returns : goal.returns
returns c =
    let all : c.loop.counter ≡ MOST_NODES * MOST_NODES = omega arith in
    let none : List RatioStep = [] in
    c.loop.invariant ∙ ap (λ (n : ℕ). replicate n none) all
