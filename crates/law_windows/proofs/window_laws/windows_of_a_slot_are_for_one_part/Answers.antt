use Rattle.law_windows.proofs.SlotFloods.{of_their_slot}
use Rattle.law_windows.proofs.SlotParts.{for_their_part, one_part_a_slot}
use Rattle.law_windows.proofs.window_laws.windows_of_a_slot_are_for_one_part.Goals as goal

pub returns : goal.returns
returns c = record { part = for_their_part; flood = of_their_slot; one = one_part_a_slot }
