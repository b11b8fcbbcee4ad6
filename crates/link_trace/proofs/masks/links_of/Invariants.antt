use Rattle.link_trace.specs.Masks.{IsMaskUpto}
use Rattle.link_trace.specs.Sides.{is_linked}
use Rattle.link_trace.proofs.masks.links_of.Given as goal

abbrev pub invariant-loop-i : goal.invariant-loop-i
invariant-loop-i l = IsMaskUpto (λ v. is_linked l.side l.links v) l.nodes l.i l.mask
