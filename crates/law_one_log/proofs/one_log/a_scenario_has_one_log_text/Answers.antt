use Rattle.law_one_log.proofs.OneText.{one_text}
use Rattle.law_one_log.proofs.one_log.a_scenario_has_one_log_text.Goals as goal

pub returns : goal.returns
returns c = one_text
