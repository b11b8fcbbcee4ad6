use Rattle.std.proofs.Common.{◌++◌, List, sym, ◌∙◌, ap, arith, append-nil}
use Rattle.std.proofs.lemmas.List.{take_all}
use Rattle.plain_bus.specs.FloodMasks.{traced}
use Rattle.plain_bus.specs.RunFloods.{SlotFlood}
use Rattle.drawn_losses.specs.StepLosses.{losses_of_floods}
use Rattle.drawn_losses.proofs.FloodsInTurn.{floods_more, run_size}
use Rattle.drawn_losses.proofs.frame_losses.losses_in_frame.Goals as goal

pub loop-flood-init : goal.loop-flood-init
loop-flood-init g c f ys ran = sym (append-nil c.args.lines.now.items)

pub loop-flood-preserved : goal.loop-flood-preserved
loop-flood-preserved g c f ys ran =
    floods_more (g.B.Links.lines c.args.base.now) (traced (g.M.Links.lines c.args.links.now) (g.M.Links.nodes c.args.links.now)) f ys c.args.floods.now
    c.loop-flood.flood-index c.flood-item.result c.args.lines.now.items c.loop-flood.lines.items c.losses_in_flood.new.lines.items ran
    c.loop-flood-test.true c.flood-item.is (c.loop-flood.invariant f ys ran)
    (λ y one. c.in_ok-losses_in_flood.ensures y.flood one.masked)

pub returns : goal.returns
returns g c f ys ran =
    let size = run_size (traced (g.M.Links.lines c.args.links.now) (g.M.Links.nodes c.args.links.now)) f ys c.args.floods.now ran in
    c.loop-flood.invariant f ys ran
    ∙ ap (λ (l : List SlotFlood). c.args.lines.now.items ++ losses_of_floods (g.B.Links.lines c.args.base.now) f (g.M.Links.nodes c.args.links.now) l)
    (take_all c.loop-flood.flood-index ys (omega (arith, size, c.loop-flood-test.false, c.loop-flood.auto.flood-index-end)))
