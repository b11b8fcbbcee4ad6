use Rattle.std.proofs.Common.{◌<◌, map, take, length, subst, sym, ap, arith}
use Rattle.radio_model.specs.Stations.{IsTime}
use Rattle.lwb_flood.specs.declared.member.Member.{Member}
use Rattle.lwb_flood.specs.FloodWorlds.{World, node_of_member}
use Rattle.lwb_flood.proofs.FloodClosing.{closed_time}
use Rattle.lwb_flood.proofs.FloodHearers.{some_member}
use Rattle.lwb_flood.proofs.ClosingLoop.{closing_below, closing_on}
use Rattle.lwb_flood.proofs.flood_world.FloodWorld.close.Goals as goal

pub close_one-requires-clause-place : goal.close_one-requires-clause-place
close_one-requires-clause-place c =
    let first = c.args.self.now in
    let now = c.loop-place.self in
    let below : c.loop-place.place < length first.members =
    (let inside = c.loop-place-test.true in
    omega (arith, ap length c.as_slice-place-end.ensures.value, ap (λ (w : World). length w.members) c.self.view_is)) in
    closing_below first now c.loop-place.place c.loop-place.invariant below

pub close_one-requires-clause-time : goal.close_one-requires-clause-time
close_one-requires-clause-time c = subst (λ (w : World). IsTime w.medium 1346096000) (sym c.loop-place.invariant)
    (closed_time (take c.loop-place.place (map node_of_member c.args.self.now.members)) c.args.self.now c.requires)

pub loop-place-preserved : goal.loop-place-preserved
loop-place-preserved c =
    let first = c.args.self.now in
    let now = c.loop-place.self in
    let below : c.loop-place.place < length first.members =
    (let inside = c.loop-place-test.true in
    omega (arith, ap length c.as_slice-place-end.ensures.value, ap (λ (w : World). length w.members) c.self.view_is)) in
    let some : Member = some_member now.members c.loop-place.place (closing_below first now c.loop-place.place c.loop-place.invariant below) in
    closing_on first now c.loop-place.place c.loop-place.invariant below c.close_one.new.self some (c.in_ok-close_one.ensures some)
