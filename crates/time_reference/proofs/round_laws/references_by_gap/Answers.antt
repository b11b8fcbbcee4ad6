use Rattle.time_reference.proofs.Rounds.{by_gap}
use Rattle.time_reference.proofs.round_laws.references_by_gap.Goals as goal

pub returns : goal.returns
returns c = by_gap
