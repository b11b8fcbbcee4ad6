use Rattle.std.proofs.Common.{refl}
use Rattle.drawn_bus.specs.DrawnScenarios.{drawn_scenario}
use Rattle.plan_commands.proofs.fates_answer.drawn_fates.Goals as goal

pub returns : goal.returns
returns c = c.run_fates.ensures (drawn_scenario c.args.scenario.now c.args.ratios.now.lines c.args.seed) c.in_ok-bus.ensures.run refl refl
