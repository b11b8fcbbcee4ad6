use Rattle.std.proofs.Common.{string_bytes, subst}
use Rattle.run_report.specs.RunReport.{run_report}
use Rattle.run_report.specs.RunsTold.{IsOfRun}
use Rattle.scenario_text.specs.ScenarioParts.{ScenarioParts}
use Rattle.plan_commands.proofs.DrawnRuns.{over_drawn}
use Rattle.plan_commands.proofs.run_answer.drawn_report.Goals as goal

pub returns : goal.returns
returns c =
    let run = c.in_ok-run.run' in (
      run.air,
      subst (λ (x : ScenarioParts). IsOfRun run_report x run.air (string_bytes run.text))
          (over_drawn c.args.scenario.now c.args.ratios.now.lines c.args.seed c.new-links.result c.trace.result.now c.frames.result c.new-links.ensures
          c.trace.ensures.value c.frames.ensures.value) c.in_ok-run.ensures,
    )
