use Rattle.law_safety.proofs.FloodPackets.{one_flood_says}
use Rattle.law_safety.proofs.slot_laws.a_slot_has_one_flood.Goals as goal

pub returns : goal.returns
returns c = one_flood_says
