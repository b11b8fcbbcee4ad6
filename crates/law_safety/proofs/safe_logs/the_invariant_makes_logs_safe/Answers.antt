use Rattle.law_safety.proofs.SafeRuns.{heedful_is_safe, lawful_is_safe}
use Rattle.law_safety.proofs.safe_logs.the_invariant_makes_logs_safe.Goals as goal

pub returns : goal.returns
returns c = record { heedful = heedful_is_safe; lawful = lawful_is_safe }
