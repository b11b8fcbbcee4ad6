use Rattle.lwb_flood.proofs.TwoNodeRun.{two_is_run}
use Rattle.lwb_flood.proofs.flood_laws.two_nodes_are_a_run.Goals as goal

pub returns : goal.returns
returns c = two_is_run
