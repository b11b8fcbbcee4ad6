use Rattle.air_log.proofs.TwoNodeLog.{two_nodes_keep_the_law}
use Rattle.air_log.proofs.flood_law.two_nodes_keep_the_flood_law.Goals as goal

pub returns : goal.returns
returns c = two_nodes_keep_the_law
