use Rattle.std.proofs.Common.{take, ◌==◌}
use Rattle.std.specs.List.{list_any}
use Rattle.link_trace.specs.declared.lines.CutLine.{CutLine}
use Rattle.link_trace.specs.Masks.{IsMask}
use Rattle.link_trace.proofs.masks.cut_mask.Given as goal

abbrev pub invariant-loop-line : goal.invariant-loop-line
invariant-loop-line l = IsMask (λ node. list_any (λ (c : CutLine). c.node == node) (take l.line-index l.cuts)) l.nodes l.mask
