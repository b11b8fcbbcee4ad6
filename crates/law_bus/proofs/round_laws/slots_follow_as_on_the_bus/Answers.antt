use Rattle.law_bus.proofs.RoundsInTurn.{slot_steps}
use Rattle.law_bus.proofs.round_laws.slots_follow_as_on_the_bus.Goals as goal

pub returns : goal.returns
returns c = slot_steps
