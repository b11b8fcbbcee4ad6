use Rattle.air_log.proofs.InTurn.{heard_in_turn}
use Rattle.air_log.proofs.trail_laws.hearings_in_turn_are_taken_as_they_stand.Goals as goal

pub returns : goal.returns
returns c = heard_in_turn
