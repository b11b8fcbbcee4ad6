use Rattle.std.proofs.Common.{IfOk, subst}
use Rattle.link_trace.specs.Passes.{Lines}
use Rattle.scenario_text.specs.OverLines.{over}
use Rattle.bus_model.specs.BusRuns.{IsBusRun}
use Rattle.bus_model.proofs.bus.Bus.run.Goals as goal

pub returns : goal.returns
returns c = subst (λ (t : Lines). IfOk c.run_over.result (IsBusRun (over c.args.s.now t))) c.trace.ensures.value c.run_over.ensures
