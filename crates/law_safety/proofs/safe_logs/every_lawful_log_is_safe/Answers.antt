use Rattle.law_safety.proofs.SafeRuns.{heedful_logs_are_safe, lawful_logs_are_safe}
use Rattle.law_safety.proofs.safe_logs.every_lawful_log_is_safe.Goals as goal

pub returns : goal.returns
returns c = record { heedful = heedful_logs_are_safe; lawful = lawful_logs_are_safe }
