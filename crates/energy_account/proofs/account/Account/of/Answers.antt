use Rattle.std.proofs.Common.{◌≡◌, ◌++◌, ◌∷◌, [], List, map, take, get_or, ◌∙◌, ap, arith, rules}
use Rattle.std.proofs.lemmas.List.{take_all}
use Rattle.scenario_text.specs.declared.lines.NodeLine.{NodeLine}
use Rattle.scenario_text.proofs.SoundScenarios.{sound}
use Rattle.scenario_clocks.specs.StatedClocks.{scenario_clock}
use Rattle.scenario_clocks.proofs.StatedDrift.{scenario_states}
use Rattle.lwb_base.proofs.Elements.{map_pushed}
use Rattle.energy_account.specs.declared.account.AccountLine.{AccountLine}
use Rattle.air_log.specs.declared.energy.Energy.{Energy}
use Rattle.energy_account.specs.Accounts.{line_for, line_of}
use Rattle.energy_account.proofs.AccountLines.{account_of_lines}
use Rattle.scenario_clocks.proofs.StatedPlaces.{stated_place}
use Rattle.energy_account.proofs.account.Account.of.Goals as goal

pub stated_clocks-requires : goal.stated_clocks-requires
stated_clocks-requires c = rw (c.nodes-nodes.ensures.value, c.rates.ensures) (scenario_states c.args.s.now c.nodes-nodes.ensures.said)

pub energy_of_node-requires-clause-clock : goal.energy_of_node-requires-clause-clock
energy_of_node-requires-clause-clock c =
    let s = c.args.s.now in
    let clocks = c.in_ok-clocks.ensures in
    stated_place s c.nodes-nodes.result.now c.rates.result.now c.in_ok-clocks.clocks.items (sound s c.nodes-nodes.ensures.said) c.nodes-nodes.ensures.value
    c.rates.ensures clocks.count clocks.stated
    c.loop-i.i c.index-nodes-i.result c.index.result.now (omega arith) c.index.ensures

pub loop-i-preserved : goal.loop-i-preserved
loop-i-preserved c =
    let s = c.args.s.now in
    let nodes = c.nodes-nodes.result.now in
    let i = c.loop-i.i in
    let n : NodeLine = get_or nodes i c.index-nodes-i.result in
    let says : NodeLine → AccountLine = line_for s (scenario_clock s) c.args.a.now in
    let line : AccountLine = record { node = n.node; energy = c.in_ok-energy.energy } in
    let is : line ≡ says n = ap (λ (e : Energy). record { node = n.node; energy = e }) c.in_ok-energy.ensures in
    let pushed : c.push.new.self.items ≡ c.loop-i.lines.items ++ line ∷ [] = search rules in
    pushed ∙ map_pushed says nodes i n c.loop-i.lines.items line (omega arith) (ap (λ (d : NodeLine). get_or nodes i d) c.index-nodes-i.is) c.loop-i.invariant
    is

pub returns : goal.returns
returns c =
    let s = c.args.s.now in
    let nodes = c.nodes-nodes.result.now in
    let whole : take c.loop-i.i nodes ≡ s.nodes = take_all c.loop-i.i nodes (omega arith) ∙ c.nodes-nodes.ensures.value in
    let lines : c.loop-i.lines.items ≡ map (line_for s (scenario_clock s) c.args.a.now) s.nodes =
    c.loop-i.invariant ∙ ap (λ (ns : List NodeLine). map (line_for s (scenario_clock s) c.args.a.now) ns) whole in
    λ v. ap (λ (ls : List AccountLine). line_of ls v) lines ∙ account_of_lines s (scenario_clock s) c.args.a.now v
