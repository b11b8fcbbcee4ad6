use Rattle.std.proofs.Common.{◌≡◌, ◌+◌, ℕ, Bool, length, ap, sym, ◌∙◌, subst, arith}
use Rattle.std.proofs.lemmas.List.{length-map}
use Rattle.link_trace.specs.Masks.{IsMaskUpto}
use Rattle.link_trace.proofs.MaskBits.{one_with, one_without}
use Rattle.plain_bus.specs.declared.window.Window.{Window}
use Rattle.plain_bus.proofs.MembersOfSlots.{same_test}
use Rattle.plain_bus.proofs.SteppedByMasks.{no_station}
use Rattle.plain_bus.proofs.slot_flood.initiators_of.Goals as goal
use Rattle.plain_bus.proofs.slot_flood.initiators_of.Goals.{then-window, else-window}

pub loop-i-init : goal.loop-i-init
loop-i-init c nodes test same = no_station test nodes

pub loop-i-preserved : goal.loop-i-preserved
loop-i-preserved c nodes test same =
    let i = c.loop-i.i in
    let ws = c.args.windows.now in
    let w = c.index-windows-i.result in
    let flag : Window → Bool = λ x. x.initiates in
    let at = same_test flag ws test nodes i w same c.loop-i-test.true c.index-windows-i.is in
    elim c.if-window.branch [
      | then-window b ↦
          subst (λ (m : ℕ). IsMaskUpto test nodes (i + 1) m) (sym b.mask-is)
          (one_with nodes test i c.loop-i.mask (c.loop-i.invariant nodes test same) b.with-mask.result b.with-mask.ensures.set b.with-mask.ensures.others
          (at.1 ∙ b.if-window.true))
      | else-window b ↦
          subst (λ (m : ℕ). IsMaskUpto test nodes (i + 1) m) (sym b.mask-is)
          (one_without nodes test i c.loop-i.mask (c.loop-i.invariant nodes test same) (at.1 ∙ b.if-window.false))
    ]

pub returns : goal.returns
returns c nodes test same =
    let flag : Window → Bool = λ x. x.initiates in
    let all : c.loop-i.i ≡ length nodes =
    omega (arith, c.loop-i-test.false, c.loop-i.auto.i-end, length-map c.args.windows.now flag, ap length same, length-map nodes test) in
    subst (λ (n : ℕ). IsMaskUpto test nodes n c.loop-i.mask) all (c.loop-i.invariant nodes test same)
