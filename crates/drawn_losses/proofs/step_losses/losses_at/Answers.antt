use Rattle.std.proofs.Common.{◌≡◌, ◌<◌, ◌++◌, ◌&&◌, not, ℕ, List, Bool, is_some, flat_map, length, get_or, sym, ◌∙◌, ap, arith, append-nil, bit_and}
use Rattle.std.proofs.lemmas.List.{take_all}
use Rattle.link_trace.specs.Masks.{IsMask}
use Rattle.link_trace.specs.Passes.{passes}
use Rattle.link_trace.proofs.MaskBits.{in_both, same_tests}
use Rattle.bus_terms.specs.Flooding.{moment}
use Rattle.drawn_bus.specs.FloodLosses.{is_lost_in}
use Rattle.drawn_bus.specs.KeptLosses.{flood_over, receives_otherwise}
use Rattle.drawn_losses.specs.StepLosses.{losses_by}
use Rattle.drawn_losses.proofs.LossesFound.{together_more}
use Rattle.drawn_losses.proofs.step_losses.losses_at.Goals as goal

pub loop-place-init : goal.loop-place-init
loop-place-init g c x flood at changed = sym (append-nil c.args.lines.now.items)

pub loop-place-preserved : goal.loop-place-preserved
loop-place-preserved g c x flood at changed =
    let nodes = g.M.Links.nodes c.args.links.now in
    let base = g.B.Links.lines c.args.base.now in
    let lines = g.M.Links.lines c.args.links.now in
    let fl = c.args.flood.now in
    let f = fl.frame in
    let j = fl.slot in
    let k = c.args.step in
    let i = c.loop-place.place in
    let u = get_or nodes i 0 in
    let below : i < length nodes = omega (arith, c.loop-place-test.true, c.len-place-end.ensures.value, c.requires.sealed) in
    let sent : Bool = is_some ((moment x k).sends u) in
    let otherwise : ℕ → Bool = λ v. receives_otherwise x (flood_over base f j x) k v in
    let lost : IsMask (λ v. sent && (passes base f j k u v && not (x.passes k u v))) nodes c.lost_from-lost.result =
    same_tests nodes (λ v. sent && (passes base f j k u v && not (passes lines f j k u v))) (λ v. sent && (passes base f j k u v && not (x.passes k u v)))
    c.lost_from-lost.result (λ v. ap (λ (b : Bool). sent && (passes base f j k u v && not b)) (sym (flood.links k u v)))
    (c.lost_from-lost.ensures (λ w. is_some ((moment x k).sends w)) at.senders) in
    let mask : IsMask (is_lost_in base f j x k u) nodes (bit_and c.lost_from-lost.result c.args.changed) =
    in_both nodes (λ v. sent && (passes base f j k u v && not (x.passes k u v))) otherwise c.lost_from-lost.result c.args.changed lost changed in
    together_more (losses_by base f j nodes x k) nodes i c.args.lines.now.items c.loop-place.lines.items c.add_losses.new.lines.items below
    (c.loop-place.invariant x flood at changed)
    (c.in_ok-add_losses.ensures (moment x k) nodes (is_lost_in base f j x k u) at.each (rw c.and.ensures mask))

pub returns : goal.returns
returns g c x flood at changed =
    let nodes = g.M.Links.nodes c.args.links.now in
    let fl = c.args.flood.now in
    let all : c.loop-place.place ≡ length nodes =
    omega (arith, c.loop-place-test.false, c.loop-place.auto.place-end, c.len-place-end.ensures.value, c.requires.sealed) in
    c.loop-place.invariant x flood at changed
    ∙ ap (λ (l : List ℕ). c.args.lines.now.items ++ flat_map (losses_by (g.B.Links.lines c.args.base.now) fl.frame fl.slot nodes x c.args.step) l)
    (take_all c.loop-place.place nodes (omega (arith, all)))
