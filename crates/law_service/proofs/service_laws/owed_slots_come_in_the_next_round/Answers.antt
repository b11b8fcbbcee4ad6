use Rattle.law_service.proofs.FirstRounds.{follow, granted, new_granted}
use Rattle.law_service.proofs.service_laws.owed_slots_come_in_the_next_round.Goals as goal

pub returns : goal.returns
returns c = record { follows = follow; owed = granted; first = new_granted }
