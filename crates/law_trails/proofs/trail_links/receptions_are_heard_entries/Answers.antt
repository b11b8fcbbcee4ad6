use Rattle.law_trails.proofs.HeardInTrails.{reception_is}
use Rattle.law_trails.proofs.trail_links.receptions_are_heard_entries.Goals as goal

pub returns : goal.returns
returns c = reception_is
