use Rattle.radio_model.proofs.Agreement.{agree_same, agree_back, agree_on, agree_earlier}
use Rattle.radio_model.proofs.laws.agreement_is_an_equivalence.Goals as goal

pub returns-clause-same : goal.returns-clause-same
returns-clause-same c = agree_same

pub returns-clause-back : goal.returns-clause-back
returns-clause-back c = agree_back

pub returns-clause-on : goal.returns-clause-on
returns-clause-on c = agree_on

pub returns-clause-earlier : goal.returns-clause-earlier
returns-clause-earlier c = agree_earlier
