use Rattle.law_trails.proofs.HeedfulLogs.{lawful_is_heedful}
use Rattle.law_trails.proofs.safe_logs.lawful_logs_are_heedful.Goals as goal

pub returns : goal.returns
returns c = lawful_is_heedful
