use Rattle.std.proofs.Common.{◌≡◌, ◌++◌, List, ℕ, string_bytes, sym, ◌∙◌, ap}
use Rattle.bus_report.specs.BusReport.{cost_lines}
use Rattle.bus_report.specs.ReportLines.{report_lines}
use Rattle.bus_rules.specs.declared.delivery.Delivery.{Delivery}
use Rattle.bus_rules.specs.declared.delivery.DropLine.{DropLine}
use Rattle.bus_terms.specs.Bus.{bus_deliveries, bus_drops}
use Rattle.scenario_text.specs.OverLines.{over}
use Rattle.scenario_text.specs.ScenarioParts.{ScenarioParts}
use Rattle.plan_commands.proofs.outcome_answer.run_report.Goals as goal

pub returns : goal.returns
returns c =
    λ t run.
    let d : ScenarioParts = over c.args.scenario.now t in
    let events : string_bytes c.in_ok-report.report ≡ report_lines (bus_deliveries d) (bus_drops d) =
    c.in_ok-report.ensures
    ∙ ap (λ (ds : List Delivery). report_lines ds c.drops.result.now) (c.deliveries.ensures ∙ run.delivered)
    ∙ ap (λ (ls : List DropLine). report_lines (bus_deliveries d) ls) (c.drops.ensures ∙ run.lost) in
    let costs = c.in_ok-write_costs.ensures d run (sym c.nodes.ensures.value) in
    costs ∙ ap (λ (l : List ℕ). l ++ cost_lines d) events
