use Rattle.std.proofs.Common.{sym, subst}
use Rattle.scenario_clocks.specs.StatedClocks.{scenario_clock}
use Rattle.air_log.specs.Lawful.{Lawful}
use Rattle.test_reports.proofs.runner_tests.LogsRunner.run.Goals as goal

pub returns-clause-lawful : goal.returns-clause-lawful
returns-clause-lawful c =
    let s = c.args.s.now in
    subst (Lawful s (scenario_clock s)) (sym c.into_parts-air.ensures.air) c.in_ok-world_after.ensures.run.lawful
