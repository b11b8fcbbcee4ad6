use Rattle.law_bus.proofs.RoundsInTurn.{first_slots}
use Rattle.law_bus.proofs.round_laws.rounds_begin_as_the_bus.Goals as goal

pub returns : goal.returns
returns c = first_slots
