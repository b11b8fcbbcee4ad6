use Rattle.law_times.proofs.FirstRoundsOfHosts.{first_rounds}
use Rattle.law_times.proofs.first_rounds.first_round_frames.Goals as goal

pub returns-clause-enough : goal.returns-clause-enough
returns-clause-enough c = first_rounds
