use Rattle.law_safety.proofs.InvariantHolds.{holds_throughout}
use Rattle.law_safety.proofs.invariant_laws.steps_keep_the_invariant.Goals as goal

pub returns : goal.returns
returns c = holds_throughout
