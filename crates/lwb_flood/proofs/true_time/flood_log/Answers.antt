use Rattle.std.proofs.Common.{◌≡◌, ◌<◌, ℕ, List, map, get_or, sym, ◌∙◌, ap, subst}
use Rattle.std.specs.Prelude.{Contains}
use Rattle.std.proofs.lemmas.List.{get_or_default}
use Rattle.link_trace.specs.Passes.{Lines}
use Rattle.air_log.specs.declared.entry.Entry.{Entry}
use Rattle.air_log.specs.FloodLaw.{FloodLaw}
use Rattle.lwb_flood.specs.declared.member.Member.{Member}
use Rattle.air_log.specs.ClockLists.{clocks_by}
use Rattle.lwb_flood.specs.FloodLog.{HasClocks}
use Rattle.lwb_flood.specs.FloodWorlds.{World, node_of_member, CanStep, WorldSteps, readings_of_node}
use Rattle.lwb_flood.proofs.FloodClosing.{closing_time, closed_law}
use Rattle.lwb_flood.proofs.FloodHearers.{some_member}
use Rattle.lwb_flood.proofs.FloodLoop.{IsRunning, running_first, can_step, step_on, closing}
use Rattle.lwb_flood.proofs.FloodMeasure.{remaining}
use Rattle.lwb_flood.proofs.true_time.flood_log.Given.{Over}
use Rattle.lwb_flood.proofs.true_time.flood_log.Goals as goal
use Rattle.lwb_flood.proofs.true_time.flood_log.Goals.{In_ok-world, In_ok-step}
use Rattle.lwb_flood.proofs.FloodClocks.{same_readings}
use Rattle.lwb_flood.proofs.NodeClocks.{listed_clocks}

has : (g : Over) (c : In_ok-world g) → HasClocks c.args.f.now (clocks_by g.C.DriftClock.readings c.args.f.now.nodes c.args.clocks.items)
has g c =
    listed_clocks g.C.DriftClock.readings g.met.C.DriftClock.keeps_drift_law c.args.f.now c.args.clocks.items c.requires
    c.in_ok-world.ensures.sound c.in_ok-world.ensures.start

pub loop-place-init : goal.loop-place-init
loop-place-init g c =
    let clocks = clocks_by g.C.DriftClock.readings c.args.f.now.nodes c.args.clocks.items in
    subst (IsRunning c.args.f.now clocks) (sym c.in_ok-world.ensures.world)
    (running_first c.args.f.now clocks (has g (goal.at.loop-place-init g c).In_ok-world))

pub step-requires-clause-can : goal.step-requires-clause-can
step-requires-clause-can g c =
    λ d.
    let clocks = clocks_by g.C.DriftClock.readings c.args.f.now.nodes c.args.clocks.items in
    let w = c.loop-place.world in
    let m : Member = get_or w.members c.in-Some.place d in
    let there : Contains w.members m = (c.in-Some.place, c.in-Some.ensures.some.0, get_or_default w.members c.in-Some.place m d c.in-Some.ensures.some.0) in
    subst (λ (lines : Lines). CanStep lines w m m.act) (sym c.trace.ensures.value)
    (can_step c.args.f.now clocks (has g (goal.at.step-requires-clause-can g c).In_ok-world) w c.loop-place.invariant m there (c.in-Some.ensures.some.1 d))

-- a step goes on, with less left to do
stepped : (g : Over) (c : In_ok-step g)
    → HasClocks c.args.f.now (clocks_by g.C.DriftClock.readings c.args.f.now.nodes c.args.clocks.items)
    → IsRunning c.args.f.now (clocks_by g.C.DriftClock.readings c.args.f.now.nodes c.args.clocks.items) c.step.new.self
    × (remaining c.step.new.self < remaining c.loop-place.world)
stepped g c has_clocks =
    let clocks = clocks_by g.C.DriftClock.readings c.args.f.now.nodes c.args.clocks.items in
    let R = g.C.DriftClock.readings in
    let w = c.loop-place.world in
    let some : Member = some_member w.members c.in-Some.place c.in-Some.ensures.some.0 in
    let m : Member = get_or w.members c.in-Some.place some in
    let there : Contains w.members m = (c.in-Some.place, c.in-Some.ensures.some.0, get_or_default w.members c.in-Some.place m some c.in-Some.ensures.some.0) in
    let others : ℕ → ℕ → ℕ = readings_of_node R c.as_slice.result.now (map node_of_member w.members) in
    let same : (v : ℕ) → clocks v ≡ others v =
    λ v.
    same_readings R c.args.f.now.nodes c.args.clocks.items v
    ∙ ap (λ (us : List ℕ). readings_of_node R c.args.clocks.items us v) (sym c.loop-place.invariant.so.nodes)
    ∙ ap (λ (cs : List _). readings_of_node R cs (map node_of_member w.members) v) (sym c.as_slice.ensures.value) in
    step_on c.args.f.now clocks has_clocks w c.loop-place.invariant m there (c.in-Some.ensures.some.1 some) others same c.step.new.self
    (subst (λ (lines : Lines). WorldSteps lines others w c.step.new.self m m.act) c.trace.ensures.value (c.in_ok-step.ensures some))

pub loop-place-smaller : goal.loop-place-smaller
loop-place-smaller g c = let back = goal.at.loop-place-smaller g c in (stepped g back.In_ok-step (has g back.In_ok-world)).1

pub loop-place-preserved : goal.loop-place-preserved
loop-place-preserved g c = let back = goal.at.loop-place-preserved g c in (stepped g back.In_ok-step (has g back.In_ok-world)).0

pub close-requires : goal.close-requires
close-requires g c =
    let clocks = clocks_by g.C.DriftClock.readings c.args.f.now.nodes c.args.clocks.items in
    let has_clocks = has g (goal.at.close-requires g c).In_ok-world in
    closing_time c.args.f.now clocks has_clocks c.loop-place.world
    (closing c.args.f.now clocks has_clocks c.loop-place.world c.loop-place.invariant c.in_default.ensures.none)

pub returns-clause-law : goal.returns-clause-law
returns-clause-law g c =
    let clocks = clocks_by g.C.DriftClock.readings c.args.f.now.nodes c.args.clocks.items in
    let has_clocks = has g (goal.at.returns-clause-law g c).In_ok-world in
    let w = c.loop-place.world in
    let law = closed_law c.args.f.now clocks has_clocks (map node_of_member w.members) c.loop-place.invariant.so.nodes w
    (closing c.args.f.now clocks has_clocks w c.loop-place.invariant c.in_default.ensures.none) in
    subst (λ (air : List Entry). FloodLaw c.args.f.now clocks air) (sym (c.into_air.ensures ∙ ap (λ (z : World). z.air) c.in_ok-close.ensures)) law

pub returns-clause-clocks : goal.returns-clause-clocks
returns-clause-clocks g c = has g (goal.at.returns-clause-clocks g c).In_ok-world
