use Rattle.scenario_clocks.specs.StatedClocks.{scenario_clock}
use Rattle.air_check.proofs.LawfulVerdicts.{lawful_of}
use Rattle.air_check.proofs.log_check.check.Goals as goal

pub returns-clause-lawful : goal.returns-clause-lawful
returns-clause-lawful c =
    lawful_of c.args.s.now (scenario_clock c.args.s.now) c.args.air.now c.verdict_on_receptions.result c.verdict_on_receptions.ensures
