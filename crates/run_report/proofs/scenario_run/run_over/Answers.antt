use Rattle.std.proofs.Common.{◌∙◌, ap, sym, subst}
use Rattle.scenario_text.specs.OverLines.{over}
use Rattle.scenario_text.specs.ScenarioParts.{ScenarioParts}
use Rattle.scenario_clocks.specs.StatedClocks.{scenario_clock}
use Rattle.air_log.specs.Idling.{all_idle}
use Rattle.air_log.specs.Lawful.{Lawful}
use Rattle.air_log.specs.NodeCharges.{charges_in}
use Rattle.law_bus.specs.BusRuns.{AgreesWithBus}
use Rattle.run_report.proofs.scenario_run.run_over.Goals as goal

pub returns : goal.returns
returns g c =
    let s : ScenarioParts = over c.args.s.now (g.M.Links.lines c.args.links.now) in
    let run = c.in_ok-world.ensures.run in
    let parts = c.into_parts.ensures in
    record {
      lawful = subst (Lawful s (scenario_clock s)) (sym parts.air) run.lawful;
      bus = subst (AgreesWithBus s (scenario_clock s)) (sym parts.air) run.bus;
      deliveries = parts.deliveries ∙ run.deliveries ∙ run.bus.delivered;
      drops = parts.drops ∙ run.drops;
      charges = parts.charges ∙ c.in_ok-world.ensures.charges ∙ ap (charges_in s (scenario_clock s)) (sym parts.air);
      idle = parts.idle ∙ c.in_ok-world.ensures.idle ∙ ap (all_idle s (scenario_clock s)) (sym parts.air);
    }
