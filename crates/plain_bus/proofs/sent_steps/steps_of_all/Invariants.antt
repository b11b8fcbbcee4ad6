use Rattle.plain_bus.specs.SentSteps.{AreStepsOf}
use Rattle.plain_bus.proofs.sent_steps.steps_of_all.Given as goal

abbrev pub invariant-loop-step : goal.invariant-loop-step
invariant-loop-step l = AreStepsOf l.senders l.step l.all
