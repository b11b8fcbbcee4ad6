use Rattle.law_safety.proofs.SentPlans.{one_planned}
use Rattle.law_safety.proofs.slot_laws.one_plan_is_sent_for_a_round.Goals as goal

pub returns : goal.returns
returns c = one_planned
