use Rattle.std.proofs.Common.{None, ◌∙◌, replicate}
use Rattle.std.proofs.lemmas.List.{get_or-replicate, get_or_default, length-replicate}
use Rattle.lwb_base.specs.declared.limits.TheConstants.{MOST_NODES}
use Rattle.plain_bus.specs.declared.cost.Steps.{Steps}
use Rattle.plain_bus.proofs.StepsAdded.{few_steps, none_counted, steps_more}
use Rattle.plain_bus.proofs.sent_steps.steps_of_all.Goals as goal

pub loop-step-init : goal.loop-step-init
loop-step-init c =
    let none : Steps = record { count = 0; last = None } in
    none_counted c.args.senders.now (replicate MOST_NODES none) (length-replicate MOST_NODES none) (λ i d below. get_or-replicate MOST_NODES i none d below)

pub add_step-requires-clause-few : goal.add_step-requires-clause-few
add_step-requires-clause-few c = few_steps c.args.senders.now c.loop-step.step c.loop-step.all c.loop-step.all c.loop-step.invariant

pub loop-step-preserved : goal.loop-step-preserved
loop-step-preserved c =
    let masks = c.args.senders.now in
    steps_more masks c.loop-step.step c.loop-step.all c.add_step.new.all c.loop-step.invariant c.index-senders-step.result
    (c.index-senders-step.is ∙ get_or_default masks c.loop-step.step c.index-senders-step.result 0 c.loop-step-test.true) c.add_step.ensures.each
    c.add_step.ensures.size
