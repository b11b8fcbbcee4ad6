use Rattle.air_check.proofs.WorkedVerdicts.{one_less, empty}
use Rattle.air_check.proofs.laws.verdicts_on_a_first_round.Goals as goal

pub returns-clause-one_less : goal.returns-clause-one_less
returns-clause-one_less c = one_less

pub returns-clause-empty : goal.returns-clause-empty
returns-clause-empty c = empty
