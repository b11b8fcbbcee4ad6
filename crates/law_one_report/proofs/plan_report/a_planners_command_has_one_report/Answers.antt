use Rattle.bus_report.specs.BusReport.{bus_report}
use Rattle.drawn_bus.specs.DrawnScenarios.{drawn_scenario}
use Rattle.fate_report.specs.FateLines.{fates_text}
use Rattle.plan_commands.specs.SeedTexts.{seeds_text}
use Rattle.run_report.specs.RunReport.{log_report, run_report}
use Rattle.law_one_report.proofs.SamePlanReports.{one_bounds, one_drawn, one_drawn_run, one_told}
use Rattle.law_one_report.proofs.SameRuns.{RunLaws, log_alike, run_alike}
use Rattle.law_one_report.proofs.plan_report.a_planners_command_has_one_report.Goals as goal

pub returns-clause-draw : goal.returns-clause-draw
returns-clause-draw c = λ seed b text other is also. one_drawn b text other seed is also

pub returns-clause-outcome : goal.returns-clause-outcome
returns-clause-outcome c = λ seed b text other is also. one_told b text other (λ s ratios. bus_report (drawn_scenario s ratios seed)) is also

pub returns-clause-fates : goal.returns-clause-fates
returns-clause-fates c = λ seed b text other is also. one_told b text other (λ s ratios. fates_text (drawn_scenario s ratios seed)) is also

pub returns-clause-sample : goal.returns-clause-sample
returns-clause-sample c = λ from count b text other is also. one_told b text other (λ s ratios. seeds_text s ratios from count) is also

pub returns-clause-bounds : goal.returns-clause-bounds
returns-clause-bounds c = λ b text other is also. one_bounds b text other is also

pub returns-clause-run : goal.returns-clause-run
returns-clause-run c = λ seed b text other is also.
    (let laws : RunLaws = record {
      log = c.a_scenario_has_one_lawful_log.ensures;
      text = c.a_scenario_has_one_log_text.ensures;
      cost = c.a_scenario_has_one_cost.ensures;
    } in
    one_drawn_run b text other laws c.scenario_clocks_keep_the_drift_law.ensures seed
    (λ s ratios said. c.drawn_runs_deliver_in_order.ensures.over b s ratios seed said) run_report (run_alike laws) is also)

pub returns-clause-log : goal.returns-clause-log
returns-clause-log c = λ seed b text other is also.
    (let laws : RunLaws = record {
      log = c.a_scenario_has_one_lawful_log.ensures;
      text = c.a_scenario_has_one_log_text.ensures;
      cost = c.a_scenario_has_one_cost.ensures;
    } in
    one_drawn_run b text other laws c.scenario_clocks_keep_the_drift_law.ensures seed
    (λ s ratios said. c.drawn_runs_deliver_in_order.ensures.over b s ratios seed said) log_report (log_alike laws) is also)
