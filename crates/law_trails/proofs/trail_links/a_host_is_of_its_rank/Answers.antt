use Rattle.law_trails.proofs.HostRanks.{host_is_of_rank}
use Rattle.law_trails.proofs.trail_links.a_host_is_of_its_rank.Goals as goal

pub returns : goal.returns
returns c = host_is_of_rank
