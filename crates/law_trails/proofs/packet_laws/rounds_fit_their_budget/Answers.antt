use Rattle.law_trails.proofs.ProfilePackets.{slot_covered, last_covered}
use Rattle.law_trails.proofs.packet_laws.rounds_fit_their_budget.Goals as goal

pub returns : goal.returns
returns c = record { slot = slot_covered; last = last_covered }
