use Rattle.std.proofs.Common.{◌≡◌, ◌++◌, ◌∙◌, OnOk, ap, string_bytes, subst, sym}
use Rattle.link_trace.specs.Passes.{Lines}
use Rattle.scenario_text.specs.OverLines.{over}
use Rattle.scenario_text.specs.ScenarioParts.{ScenarioParts}
use Rattle.scenario_clocks.specs.StatedClocks.{scenario_clock}
use Rattle.air_log.specs.Lawful.{Lawful}
use Rattle.air_log.specs.NodeCharges.{charges_in}
use Rattle.run_report.specs.RunReport.{energy_lines}
use Rattle.run_report.proofs.energy_lines.write_energies.Goals as goal

-- the scenario over its own trace is itself
pub write_energies_over-requires-clause-lawful : goal.write_energies_over-requires-clause-lawful
write_energies_over-requires-clause-lawful c =
    let is = c.new-own.ensures ∙ ap (λ (t : Lines). over c.args.s.now t) c.trace.ensures.value in
    subst (λ (x : ScenarioParts). Lawful x (scenario_clock x) c.args.air.now) (sym is) c.requires.lawful

pub write_energies_over-requires-clause-charges : goal.write_energies_over-requires-clause-charges
write_energies_over-requires-clause-charges c =
    let is = c.new-own.ensures ∙ ap (λ (t : Lines). over c.args.s.now t) c.trace.ensures.value in
    subst (λ (x : ScenarioParts). c.args.charges.now ≡ charges_in x (scenario_clock x) c.args.air.now) (sym is) c.requires.charges

pub returns : goal.returns
returns c =
    let is = c.new-own.ensures ∙ ap (λ (t : Lines). over c.args.s.now t) c.trace.ensures.value in
    let wrote = c.write_energies_over in
    subst (λ (x : ScenarioParts). OnOk wrote.result (string_bytes wrote.new.text ≡ string_bytes c.args.text.now
    ++ energy_lines x (scenario_clock x) c.args.air.now)) is wrote.ensures
