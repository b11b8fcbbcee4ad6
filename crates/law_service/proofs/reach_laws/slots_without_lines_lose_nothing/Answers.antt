use Rattle.law_service.proofs.LosslessSlots.{lose_nothing}
use Rattle.law_service.proofs.reach_laws.slots_without_lines_lose_nothing.Goals as goal

pub returns : goal.returns
returns c = lose_nothing
