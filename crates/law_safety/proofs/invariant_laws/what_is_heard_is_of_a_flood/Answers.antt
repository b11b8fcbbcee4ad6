use Rattle.law_safety.proofs.HeardNow.{heard_in_floods}
use Rattle.law_safety.proofs.invariant_laws.what_is_heard_is_of_a_flood.Goals as goal

pub returns : goal.returns
returns c = heard_in_floods
