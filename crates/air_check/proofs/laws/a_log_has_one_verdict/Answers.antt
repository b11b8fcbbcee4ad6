use Rattle.air_check.proofs.OneVerdict.{one_verdict}
use Rattle.air_check.proofs.laws.a_log_has_one_verdict.Goals as goal

pub returns : goal.returns
returns c = one_verdict
