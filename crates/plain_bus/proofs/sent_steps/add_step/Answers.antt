use Rattle.std.proofs.Common.{sym, ◌∙◌}
use Rattle.std.proofs.lemmas.Bool.{eqb-true}
use Rattle.plain_bus.proofs.StepsAdded.{all_stepped}
use Rattle.plain_bus.proofs.sent_steps.add_step.Goals as goal

pub returns-clause-each : goal.returns-clause-each
returns-clause-each c =
    all_stepped c.args.step c.args.nodes c.loop-rest.rest c.args.all.now c.loop-rest.all
    (eqb-true c.loop-rest.rest 0 (sym c.is_empty.ensures ∙ c.loop-rest-test.false)) c.loop-rest.invariant.each
