use Rattle.host_return.proofs.OneReturned.{one_returned}
use Rattle.host_return.proofs.laws.returns_do_not_depend_on_the_runs.Goals as goal

pub returns : goal.returns
returns c = one_returned c.a_scenario_has_one_lawful_log.ensures
