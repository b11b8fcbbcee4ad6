use Rattle.plan_commands.proofs.SeedsInTurn.{seeds_joined}
use Rattle.plan_commands.proofs.laws.seeds_can_be_dealt_out.Goals as goal

pub returns : goal.returns
returns c = seeds_joined
