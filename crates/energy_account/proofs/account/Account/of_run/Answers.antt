use Rattle.std.proofs.Common.{◌≡◌, ◌++◌, ◌∷◌, [], List, map, length, take, get_or, ◌∙◌, ap, arith, rules}
use Rattle.std.proofs.lemmas.List.{take_all, length-map}
use Rattle.scenario_text.specs.declared.lines.NodeLine.{NodeLine}
use Rattle.scenario_clocks.specs.StatedClocks.{scenario_clock}
use Rattle.air_log.specs.NodeCharges.{charge_in}
use Rattle.lwb_base.proofs.Elements.{map_pushed}
use Rattle.energy_account.specs.declared.account.AccountLine.{AccountLine}
use Rattle.energy_account.specs.Accounts.{line_for, line_of}
use Rattle.energy_account.proofs.AccountLines.{account_of_lines}
use Rattle.energy_account.proofs.CountedLines.{line_counted}
use Rattle.energy_account.proofs.account.Account.of_run.Goals as goal

pub charge_at-charge-requires : goal.charge_at-charge-requires
charge_at-charge-requires g c =
    omega (
      arith,
      ap length c.requires.charges,
      length-map c.args.s.now.nodes (charge_in c.args.s.now (scenario_clock c.args.s.now) c.args.a.now),
      ap length c.sound_nodes-nodes.ensures.value,
    )

pub loop-place-preserved : goal.loop-place-preserved
loop-place-preserved g c =
    let s = c.args.s.now in
    let nodes = c.sound_nodes-nodes.result.now in
    let i = c.loop-place.place in
    let n : NodeLine = get_or nodes i c.index-nodes-place.result in
    let line : AccountLine =
    record {
      node = n.node;
      energy =
          record { sent = c.sent.result; windows = c.charge_at-charge.result.windows; scanned = c.charge_at-charge.result.scanned; on = c.on.result };
    } in
    let is = line_counted s (scenario_clock s) c.args.a.now c.sound_nodes-nodes.ensures.sound c.requires.lawful nodes c.args.charges.now i n
    c.charge_at-charge.result c.sound_nodes-nodes.ensures.value c.requires.charges (omega arith)
    (ap (λ (d : NodeLine). get_or nodes i d) c.index-nodes-place.is) c.charge_at-charge.ensures
    c.in_ok-times.times c.in_ok-times.ensures.times c.in_ok-times.ensures.early c.sent.result c.on.result c.sent.ensures c.on.ensures in
    let pushed : c.push.new.self.items ≡ c.loop-place.lines.items ++ line ∷ [] = search rules in
    pushed ∙ map_pushed (line_for s (scenario_clock s) c.args.a.now) nodes i n c.loop-place.lines.items line (omega arith)
    (ap (λ (d : NodeLine). get_or nodes i d) c.index-nodes-place.is) c.loop-place.invariant is

pub returns : goal.returns
returns g c =
    let s = c.args.s.now in
    let nodes = c.sound_nodes-nodes.result.now in
    let whole : take c.loop-place.place nodes ≡ s.nodes = take_all c.loop-place.place nodes (omega arith) ∙ c.sound_nodes-nodes.ensures.value in
    let lines : c.loop-place.lines.items ≡ map (line_for s (scenario_clock s) c.args.a.now) s.nodes =
    c.loop-place.invariant ∙ ap (λ (ns : List NodeLine). map (line_for s (scenario_clock s) c.args.a.now) ns) whole in
    λ v. ap (λ (ls : List AccountLine). line_of ls v) lines ∙ account_of_lines s (scenario_clock s) c.args.a.now v
