use Rattle.law_bus.proofs.RoundsInTurn.{round_ends}
use Rattle.law_bus.proofs.round_laws.rounds_end_as_on_the_bus.Goals as goal

pub returns : goal.returns
returns c = round_ends
