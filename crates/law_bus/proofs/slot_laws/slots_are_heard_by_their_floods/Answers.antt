use Rattle.law_bus.proofs.HeardSlots.{slots_heard}
use Rattle.law_bus.proofs.slot_laws.slots_are_heard_by_their_floods.Goals as goal

pub returns : goal.returns
returns c = slots_heard
