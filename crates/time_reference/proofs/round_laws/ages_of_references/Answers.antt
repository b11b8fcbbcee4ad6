use Rattle.time_reference.proofs.Rounds.{aged}
use Rattle.time_reference.proofs.round_laws.ages_of_references.Goals as goal

pub returns : goal.returns
returns c = aged
