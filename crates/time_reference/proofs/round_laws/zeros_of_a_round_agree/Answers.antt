use Rattle.time_reference.proofs.Rounds.{spread}
use Rattle.time_reference.proofs.round_laws.zeros_of_a_round_agree.Goals as goal

pub returns : goal.returns
returns c = spread
