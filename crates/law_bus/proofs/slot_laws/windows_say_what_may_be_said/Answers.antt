use Rattle.law_bus.proofs.SayableWindows.{sayable}
use Rattle.law_bus.proofs.slot_laws.windows_say_what_may_be_said.Goals as goal

pub returns : goal.returns
returns c = sayable
