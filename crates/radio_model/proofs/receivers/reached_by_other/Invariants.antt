use Rattle.link_trace.specs.Masks.{IsMaskUpto}
use Rattle.radio_model.specs.Receptions.{arrives}
use Rattle.radio_model.proofs.receivers.reached_by_other.Given as goal

abbrev pub invariant-loop-i : goal.invariant-loop-i
invariant-loop-i l = IsMaskUpto (λ v. arrives l.profile l.trace.lines v l.y) l.nodes l.i l.places
