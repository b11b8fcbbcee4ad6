use Rattle.law_trails.proofs.SafeFirstRound.{safe}
use Rattle.law_trails.proofs.safe_logs.the_log_of_a_first_round_is_safe.Goals as goal

pub returns : goal.returns
returns c = safe
