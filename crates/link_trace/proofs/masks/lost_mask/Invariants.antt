use Rattle.std.proofs.Common.{take}
use Rattle.link_trace.specs.Masks.{IsMask}
use Rattle.link_trace.specs.Sides.{is_lost}
use Rattle.link_trace.proofs.masks.lost_mask.Given as goal

abbrev pub invariant-loop-line : goal.invariant-loop-line
invariant-loop-line l = IsMask (λ v. is_lost l.frame l.slot l.step l.side (take l.line-index l.of_slot) v) l.nodes l.mask
