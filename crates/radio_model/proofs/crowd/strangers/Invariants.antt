use Rattle.std.proofs.Common.{get_or, not}
use Rattle.radio_model.specs.Marks.{comes_close}
use Rattle.radio_model.specs.declared.mark.Mark.{Mark}
use Rattle.radio_model.proofs.Those.{Picks}
use Rattle.radio_model.proofs.crowd.strangers.Given as goal

abbrev pub invariant-loop-origin : goal.invariant-loop-origin
invariant-loop-origin l = (d : Mark) → Picks (λ k. not (comes_close l.opens l.latest l.x l.origin (get_or l.marks k d))) l.fn.places l.strange l.rest

abbrev pub decreases-loop-origin : goal.decreases-loop-origin
decreases-loop-origin l = l.rest
