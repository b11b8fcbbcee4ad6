use Rattle.std.proofs.Common.{◌≡◌, ◌++◌, ◌∷◌, [], ℕ, map, take, get_or, ◌∙◌, ap, arith, rules}
use Rattle.std.proofs.lemmas.List.{take_all}
use Rattle.lwb_base.proofs.Elements.{map_pushed}
use Rattle.tick_clock.specs.ClockReadings.{segment_clock_reads}
use Rattle.scenario_text.specs.declared.lines.NodeLine.{NodeLine}
use Rattle.scenario_text.proofs.SoundScenarios.{sound}
use Rattle.scenario_clocks.specs.StatedClocks.{scenario_clock}
use Rattle.scenario_clocks.proofs.StatedDrift.{scenario_states}
use Rattle.scenario_clocks.proofs.StatedPlaces.{stated_place}
use Rattle.air_log.specs.Lawful.{heard_by}
use Rattle.air_log.specs.TrailsTold.{TrailTold, trail_told}
use Rattle.host_return.specs.TrailsInOrder.{trail_in}
use Rattle.host_return.specs.declared.idle_trails.NodeTrail.{NodeTrail}
use Rattle.host_return.proofs.idle_trails.trails_of.Goals as goal

pub stated_clocks-requires : goal.stated_clocks-requires
stated_clocks-requires c = rw (c.nodes-nodes.ensures.value, c.rates.ensures) (scenario_states c.args.s.now c.nodes-nodes.ensures.said)

pub loop-i-preserved : goal.loop-i-preserved
loop-i-preserved c =
    let s = c.args.s.now in
    let air = c.args.air.now in
    let nodes = c.nodes-nodes.result.now in
    let i = c.loop-i.i in
    let n : NodeLine = get_or nodes i c.index-nodes-i.result in
    let clocks = c.in_ok-clocks.ensures in
    let reads : segment_clock_reads c.index.result.now ≡ scenario_clock s n.node =
    stated_place s nodes c.rates.result.now c.in_ok-clocks.clocks.items (sound s c.nodes-nodes.ensures.said) c.nodes-nodes.ensures.value
    c.rates.ensures clocks.count clocks.stated i c.index-nodes-i.result c.index.result.now (omega arith) c.index.ensures in
    let one : NodeTrail = record { node = n.node; trail = c.in_ok-trail.trail } in
    let is : one ≡ trail_in s air n =
    ap (λ (t : TrailTold). record { node = n.node; trail = t })
    (c.in_ok-trail.ensures ∙ ap (λ (k : ℕ → ℕ). trail_told s n.node k (heard_by air n.node)) reads) in
    let pushed : c.push.new.self.items ≡ c.loop-i.trails.items ++ one ∷ [] = search rules in
    pushed ∙ map_pushed (trail_in s air) nodes i n c.loop-i.trails.items one (omega arith) (ap (λ (d : NodeLine). get_or nodes i d) c.index-nodes-i.is)
    c.loop-i.invariant is

pub returns : goal.returns
returns c =
    let s = c.args.s.now in
    let nodes = c.nodes-nodes.result.now in
    let whole : take c.loop-i.i nodes ≡ s.nodes = take_all c.loop-i.i nodes (omega arith) ∙ c.nodes-nodes.ensures.value in
    c.loop-i.invariant ∙ ap (map (trail_in s c.args.air.now)) whole
