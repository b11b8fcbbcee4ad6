use Rattle.law_bus.proofs.HeardSlots.{slots_started}
use Rattle.law_bus.proofs.slot_laws.slots_are_their_floods.Goals as goal

pub returns : goal.returns
returns c = slots_started
