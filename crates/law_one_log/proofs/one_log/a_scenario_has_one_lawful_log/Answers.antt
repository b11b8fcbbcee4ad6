use Rattle.law_one_log.proofs.OneLog.{one_log}
use Rattle.law_one_log.proofs.one_log.a_scenario_has_one_lawful_log.Goals as goal

pub returns : goal.returns
returns c = one_log
