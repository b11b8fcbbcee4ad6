use Rattle.air_log.proofs.FirstRoundLog.{lawful}
use Rattle.air_log.proofs.trail_laws.the_log_of_a_first_round_is_lawful.Goals as goal

pub returns : goal.returns
returns c = lawful
