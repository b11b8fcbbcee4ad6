use Rattle.law_trails.proofs.AwakeNodes.{awake_in_phase}
use Rattle.law_trails.proofs.walks.nodes_that_are_on_are_awake.Goals as goal

pub returns : goal.returns
returns c = awake_in_phase
