use Rattle.law_safety.proofs.SafeRuns.{safe_at_the_end}
use Rattle.law_safety.proofs.safe_logs.logs_in_order_are_safe.Goals as goal

pub returns : goal.returns
returns c = safe_at_the_end
