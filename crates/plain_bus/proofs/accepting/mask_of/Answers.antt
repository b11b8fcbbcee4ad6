use Rattle.std.proofs.Common.{◌≡◌, ◌<◌, ◌≤◌, ◌+◌, ◌==◌, ℕ, Bool, length, get_or, ap, sym, ◌∙◌, subst, arith}
use Rattle.std.proofs.lemmas.List.{get_or-map, length-map}
use Rattle.lwb_base.specs.declared.limits.TheConstants.{MOST_NODES}
use Rattle.link_trace.specs.Masks.{IsMaskUpto}
use Rattle.link_trace.proofs.MaskBits.{one_with, one_without}
use Rattle.scenario_text.specs.declared.lines.NodeLine.{NodeLine}
use Rattle.bus_terms.specs.FloodOfText.{ids}
use Rattle.plain_bus.proofs.accepting.mask_of.Goals as goal
use Rattle.plain_bus.proofs.accepting.mask_of.Goals.{then-eq, else-eq}

pub loop-i-preserved : goal.loop-i-preserved
loop-i-preserved c =
    let i = c.loop-i.i in
    let lines = c.args.nodes.now in
    let n = c.index-nodes-i.result in
    let test : ℕ → Bool = λ v. v == c.args.node in
    let size = length-map lines (λ (l : NodeLine). l.node) in
    let below : i < length (ids lines) = omega (arith, c.loop-i-test.true, size) in
    let few : length (ids lines) ≤ MOST_NODES = omega (arith, c.requires, size) in
    let read : get_or (ids lines) i 0 ≡ n.node = get_or-map (λ (l : NodeLine). l.node) lines i n 0 c.loop-i-test.true
    ∙ ap (λ (l : NodeLine). l.node) (sym c.index-nodes-i.is) in
    let answer : test (get_or (ids lines) i 0) ≡ c.eq.result = ap test read ∙ sym c.eq.ensures in
    elim c.if-eq.branch [
      | then-eq w ↦
          subst (λ (m : ℕ). IsMaskUpto test (ids lines) (i + 1) m) (sym w.mask-is)
          (one_with (ids lines) test i c.loop-i.mask c.loop-i.invariant w.with-mask.result w.with-mask.ensures.set w.with-mask.ensures.others
          (answer ∙ w.if-eq.true))
      | else-eq w ↦
          subst (λ (m : ℕ). IsMaskUpto test (ids lines) (i + 1) m) (sym w.mask-is)
          (one_without (ids lines) test i c.loop-i.mask c.loop-i.invariant (answer ∙ w.if-eq.false))
    ]
