use Rattle.law_one_log.proofs.OneText.{entries_apart}
use Rattle.law_one_log.proofs.one_log.entries_of_a_lawful_log_differ.Goals as goal

pub returns : goal.returns
returns c = entries_apart
