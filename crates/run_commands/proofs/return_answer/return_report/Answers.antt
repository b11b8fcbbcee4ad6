use Rattle.std.proofs.Common.{◌∙◌, ap, string_bytes, subst, sym}
use Rattle.scenario_text.specs.ScenarioGrammar.{IsScenario}
use Rattle.bus_terms.specs.Bus.{bus_deliveries, bus_drops}
use Rattle.run_commands.proofs.ReturnTexts.{written}
use Rattle.run_commands.proofs.return_answer.return_report.Goals as goal

pub write_energies-requires-clause-lawful : goal.write_energies-requires-clause-lawful
write_energies-requires-clause-lawful c = rw (c.scenario-scenario.ensures, c.air.ensures) c.requires.returned.1.lawful

pub write_energies-requires-clause-charges : goal.write_energies-requires-clause-charges
write_energies-requires-clause-charges c = rw (c.scenario-scenario.ensures, c.air.ensures) (c.deref-3.ensures.value ∙ c.requires.kept.charges)

pub returns : goal.returns
returns c =
    let kept = c.requires.kept in
    let back = sym c.scenario-scenario.ensures in
    record {
      said = subst IsScenario c.scenario-scenario.ensures c.nodes.ensures.said;
      bytes = written c.args.returned.now c.scenario-scenario.result.now c.returns.result.now c.deref.result.now c.deref-2.result.now c.air.result.now
          (string_bytes c.new-text.result) (string_bytes c.write_returns.new.text) (string_bytes c.write_probes.new.text)
          (string_bytes c.write_report_lines.new.text) (string_bytes c.write_energies.new.text) c.scenario-scenario.ensures c.returns.ensures
          (c.deref.ensures.value ∙ kept.deliveries ∙ ap bus_deliveries back) (c.deref-2.ensures.value ∙ kept.drops ∙ ap bus_drops back) c.air.ensures
          c.new-text.ensures.bytes c.in_ok-write_returns.ensures c.in_ok-write_probes.ensures c.in_ok-write_report_lines.ensures c.in_ok-write_energies.ensures;
    }
