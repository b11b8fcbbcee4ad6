use Rattle.law_times.proofs.FirstRoundsOfHosts.{nodes_join}
use Rattle.law_times.proofs.KeptMembers.{members}
use Rattle.law_times.proofs.first_rounds.members_stay.Goals as goal

pub returns : goal.returns
returns c = record { join = nodes_join; stay = members }
