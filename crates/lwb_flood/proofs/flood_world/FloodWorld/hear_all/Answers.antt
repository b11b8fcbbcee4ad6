use Rattle.std.proofs.Common.{ℕ, map, take, sym, refl, ◌∙◌, ap, arith}
use Rattle.lwb_flood.specs.declared.member.Member.{Member}
use Rattle.lwb_flood.specs.FloodWorlds.{node_of_member, readings_of_node, world_after_reception}
use Rattle.lwb_flood.proofs.FloodHearers.{IsAmidst, hearer_there, first_more, place_below, clock_there, node_now, some_member}
use Rattle.lwb_flood.proofs.FloodSteps.{seen}
use Rattle.lwb_flood.proofs.flood_world.FloodWorld.hear_all.Given.{Over}
use Rattle.lwb_flood.proofs.flood_world.FloodWorld.hear_all.Goals as goal
use Rattle.lwb_flood.proofs.flood_world.FloodWorld.hear_all.Goals.{After-deref}

-- the turn of a node
amidst : (g : Over) (c : After-deref g)
    → IsAmidst (readings_of_node g.C.DriftClock.readings c.args.clocks.now (map node_of_member c.args.self.now.members)) c.args.x.now
    (map (λ (p : ℕ × ℕ). p.0) (take c.loop-i.i c.args.hearers.now)) c.args.self.now c.loop-i.self (seen c.self.inside) c.deref.result.now
amidst g c = record { so = c.loop-i.invariant; view = c.self.view_is; slice = c.deref.ensures.value }

pub place_of-place-requires : goal.place_of-place-requires
place_of-place-requires g c =
    hearer_there (amidst g (goal.at.place_of-place-requires g c).After-deref) c.self.invariant.nodes
    c.args.hearers.now c.requires.nodes c.loop-i.i c.unwrap-node.result (sym c.at.ensures ∙ c.unwrap-node.ensures)

pub offset_bounds-clocks-place : goal.offset_bounds-clocks-place
offset_bounds-clocks-place g c =
    (let below = place_below g.C.DriftClock.readings c.args.clocks.now (amidst g (goal.at.offset_bounds-clocks-place g c).After-deref) c.self.invariant
    c.requires.clocks c.place_of-place.result c.unwrap-node.result.0 c.place_of-place.ensures.below c.place_of-place.ensures.there in
    omega arith)

pub bounds-clocks-place : goal.bounds-clocks-place
bounds-clocks-place g c =
    place_below g.C.DriftClock.readings c.args.clocks.now (amidst g (goal.at.bounds-clocks-place g c).After-deref) c.self.invariant c.requires.clocks
    c.place_of-place.result c.unwrap-node.result.0 c.place_of-place.ensures.below c.place_of-place.ensures.there

pub loop-i-preserved : goal.loop-i-preserved
loop-i-preserved g c =
    let l = amidst g (goal.at.loop-i-preserved g c).After-deref in
    let clock : ℕ → ℕ = g.C.DriftClock.readings c.index-clocks-place.result in
    let d : Member = some_member c.deref.result.now c.place_of-place.result c.place_of-place.ensures.below in
    first_more l c.self.invariant.nodes
    c.args.hearers.now c.requires.nodes c.loop-i.i c.unwrap-node.result (sym c.at.ensures ∙ c.unwrap-node.ensures)
    clock c.hear.new.self
    (clock_there g.C.DriftClock.readings c.args.clocks.now l c.self.invariant
    c.requires.clocks c.place_of-place.result c.unwrap-node.result.0 c.place_of-place.ensures.below c.place_of-place.ensures.there
    c.index-clocks-place.result c.index-clocks-place.is)
    (c.in_ok-hear.ensures d ∙ ap (λ (v : ℕ). world_after_reception clock c.args.x.now v c.loop-i.self)
    (node_now g.C.DriftClock.readings c.args.clocks.now l c.self.invariant
    c.requires.clocks c.place_of-place.result c.unwrap-node.result.0 c.place_of-place.ensures.below c.place_of-place.ensures.there d)) refl
