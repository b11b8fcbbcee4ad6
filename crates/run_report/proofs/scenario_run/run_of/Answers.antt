use Rattle.std.proofs.Common.{IfOk, subst}
use Rattle.link_trace.specs.Passes.{Lines}
use Rattle.scenario_text.specs.OverLines.{over}
use Rattle.run_report.specs.RunsLeft.{IsLeft}
use Rattle.run_report.proofs.scenario_run.run_of.Goals as goal

pub returns : goal.returns
returns c = subst (λ (t : Lines). IfOk c.run_over.result (IsLeft (over c.args.s.now t))) c.trace.ensures.value c.run_over.ensures
