use Rattle.law_bus.proofs.CoresOfWindows.{all_slots}
use Rattle.law_bus.proofs.run_laws.slots_are_the_bus.Goals as goal

pub returns : goal.returns
returns c = all_slots
