use Rattle.law_service.proofs.TiedNodes.{share_slots, three_part}
use Rattle.law_service.proofs.contention_laws.ids_equal_modulo_16_share_slots.Goals as goal

pub returns : goal.returns
returns c = record { shared = share_slots; parted = three_part }
