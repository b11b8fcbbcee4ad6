use Rattle.std.proofs.Common.{true}
use Rattle.link_trace.specs.Masks.{IsMaskUpto}
use Rattle.bus_terms.specs.FloodOfText.{ids}
use Rattle.plain_bus.proofs.accepting.mask_of_all.Given as goal

abbrev pub invariant-loop-i : goal.invariant-loop-i
invariant-loop-i l = IsMaskUpto (λ v. true) (ids l.nodes) l.i l.mask
