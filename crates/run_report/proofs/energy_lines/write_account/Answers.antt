use Rattle.std.proofs.Common.{◌≡◌, ◌++◌, ◌∙◌, ℕ, List, OnOk, Some, None, flat_map, string_bytes, subst}
use Rattle.std.proofs.lemmas.Bool.{cond-true}
use Rattle.scenario_text.specs.FloodParts.{knows}
use Rattle.scenario_text.specs.declared.lines.NodeLine.{NodeLine}
use Rattle.scenario_clocks.specs.StatedClocks.{scenario_clock}
use Rattle.air_log.specs.Energies.{energy_of}
use Rattle.air_log.specs.declared.energy.Energy.{Energy}
use Rattle.run_report.specs.RunReport.{node_energy}
use Rattle.bus_report.proofs.NodeLines.{known_in}
use Rattle.run_report.proofs.energy_lines.write_account.Goals as goal

pub returns : goal.returns
returns g c =
    λ air is.
    let s = c.args.s.now in
    let wrote = c.write_each in
    let energy : ℕ → Energy = energy_of s (scenario_clock s) air in
    subst (λ (ns : List NodeLine). OnOk wrote.result (string_bytes wrote.new.text ≡ string_bytes c.args.text.now
    ++ flat_map (node_energy s (scenario_clock s) air) ns)) c.nodes.ensures
    (wrote.ensures energy (λ n here. is n.node
    ∙ cond-true (knows s.nodes n.node) (Some (energy n.node)) None (known_in c.nodes.result.now s.nodes n c.nodes.ensures here)))
