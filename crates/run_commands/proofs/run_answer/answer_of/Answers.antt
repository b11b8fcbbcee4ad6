use Rattle.std.proofs.Common.{string_bytes, ap, subst}
use Rattle.scenario_text.specs.OverLines.{over}
use Rattle.scenario_text.specs.ScenarioParts.{ScenarioParts}
use Rattle.run_report.specs.RunReport.{run_report}
use Rattle.run_report.specs.RunsTold.{IsOfRun}
use Rattle.run_commands.proofs.run_answer.answer_of.Goals as goal

-- a run over the scenario's own trace is one of the scenario
pub returns : goal.returns
returns c =
    λ b read.
    let s = c.args.s.now in
    let run = c.in_ok-run.run' in (
      s,
      read,
      subst (λ (x : ScenarioParts). IsOfRun run_report x run.air (string_bytes run.text)) (ap (over s) c.trace.ensures.value) c.in_ok-run.ensures,
    )
