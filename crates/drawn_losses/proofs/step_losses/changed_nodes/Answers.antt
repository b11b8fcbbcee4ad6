use Rattle.std.proofs.Common.{◌≡◌, ◌+◌, ℕ, length, subst, sym, ◌∙◌, arith}
use Rattle.link_trace.specs.Masks.{IsMaskUpto}
use Rattle.link_trace.proofs.MaskBits.{one_with, one_without}
use Rattle.plain_bus.proofs.SteppedByMasks.{no_station}
use Rattle.drawn_bus.specs.KeptLosses.{flood_over, receives_otherwise}
use Rattle.drawn_losses.proofs.step_losses.changed_nodes.Goals as goal
use Rattle.drawn_losses.proofs.step_losses.changed_nodes.Goals.{then-receives_otherwise, else-receives_otherwise}

pub loop-place-init : goal.loop-place-init
loop-place-init g c x flood known at =
    no_station (λ v. receives_otherwise x (flood_over (g.B.Links.lines c.args.base.now) c.args.flood.now.frame c.args.flood.now.slot x) c.args.step v)
    (g.M.Links.nodes c.args.links.now)

pub loop-place-preserved : goal.loop-place-preserved
loop-place-preserved g c x flood known at =
    let nodes = g.M.Links.nodes c.args.links.now in
    let i = c.loop-place.place in
    let fl = c.args.flood.now in
    let test : ℕ → _ = λ v. receives_otherwise x (flood_over (g.B.Links.lines c.args.base.now) fl.frame fl.slot x) c.args.step v in
    let is = c.receives_otherwise.ensures x flood known at in
    elim c.if-receives_otherwise.branch [
      | then-receives_otherwise w ↦
          subst (λ (m : ℕ). IsMaskUpto test nodes (i + 1) m) (sym w.changed-is)
          (one_with nodes test i c.loop-place.changed (c.loop-place.invariant x flood known at) w.with-changed.result w.with-changed.ensures.set
          w.with-changed.ensures.others (sym is ∙ w.if-receives_otherwise.true))
      | else-receives_otherwise w ↦
          subst (λ (m : ℕ). IsMaskUpto test nodes (i + 1) m) (sym w.changed-is)
          (one_without nodes test i c.loop-place.changed (c.loop-place.invariant x flood known at) (sym is ∙ w.if-receives_otherwise.false))
    ]

pub returns : goal.returns
returns g c x flood known at =
    let nodes = g.M.Links.nodes c.args.links.now in
    let fl = c.args.flood.now in
    let all : c.loop-place.place ≡ length nodes =
    omega (arith, c.loop-place-test.false, c.loop-place.auto.place-end, c.len-place-end.ensures.value, c.requires.sealed) in
    let test : ℕ → _ = λ v. receives_otherwise x (flood_over (g.B.Links.lines c.args.base.now) fl.frame fl.slot x) c.args.step v in
    subst (λ (n : ℕ). IsMaskUpto test nodes n c.loop-place.changed) all (c.loop-place.invariant x flood known at)
