use Rattle.std.proofs.Common.{◌==◌, ℕ, subst}
use Rattle.link_trace.specs.declared.lines.CutLine.{CutLine}
use Rattle.link_trace.specs.Masks.{IsMask}
use Rattle.link_trace.proofs.MaskBits.{one_more_line}
use Rattle.link_trace.proofs.masks.cut_mask.Goals as goal

pub loop-line-preserved : goal.loop-line-preserved
loop-line-preserved c =
    let i = c.loop-line.line-index in
    rw c.or-mask.ensures (one_more_line c.args.nodes.now (λ (node : ℕ) (l : CutLine). l.node == node) c.args.cuts.now i c.line-item.result c.loop-line.mask
    c.mask_of.result c.loop-line-test.true c.loop-line.invariant
    (subst (λ (l : CutLine). IsMask (λ node. l.node == node) c.args.nodes.now c.mask_of.result) c.line-item.is c.mask_of.ensures))
