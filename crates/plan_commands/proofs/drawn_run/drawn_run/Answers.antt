use Rattle.std.proofs.Common.{◌<◌, ◌^◌, List, IfOk, length, sym, subst}
use Rattle.std.proofs.lemmas.Result.{IfOk-weaker}
use Rattle.bus_model.specs.BusRuns.{BusRun, IsBusRun}
use Rattle.bus_rules.specs.declared.delivery.Delivery.{Delivery}
use Rattle.scenario_text.specs.OverLines.{over}
use Rattle.drawn_links.specs.Drawings.{lines_of}
use Rattle.scenario_text.specs.ScenarioParts.{ScenarioParts}
use Rattle.plan_commands.proofs.DrawnRuns.{over_drawn}
use Rattle.plan_commands.proofs.FewDeliveries.{few_deliveries}
use Rattle.plan_commands.proofs.drawn_run.drawn_run.Goals as goal

pub returns-clause-run : goal.returns-clause-run
returns-clause-run c =
    let s : ScenarioParts = c.args.scenario.now in
    let ratios = c.args.ratios.now.lines in
    let same = over_drawn s ratios c.args.seed c.new-links.result c.trace.result.now c.frames.result c.new-links.ensures c.trace.ensures.value
    c.frames.ensures.value in
    subst (λ (x : ScenarioParts). IfOk c.run_over.result (IsBusRun x)) same c.run_over.ensures

pub returns-clause-few : goal.returns-clause-few
returns-clause-few c =
    let s : ScenarioParts = c.args.scenario.now in
    let d : ScenarioParts = over s (lines_of c.new-links.result) in
    IfOk-weaker c.run_over.result (IsBusRun d) (λ (bus : BusRun). length bus.deliveries < 2 ^ 32)
    (λ bus run. subst (λ (l : List Delivery). length l < 2 ^ 32) (sym run.delivered) (few_deliveries d (s.trace, c.frames.ensures.said)))
    c.run_over.ensures
