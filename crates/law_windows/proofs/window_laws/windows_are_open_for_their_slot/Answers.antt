use Rattle.law_windows.proofs.WindowFacts.{slots_apart, slot_covered}
use Rattle.law_windows.proofs.window_laws.windows_are_open_for_their_slot.Goals as goal

pub returns : goal.returns
returns c = record { apart = slots_apart; covered = slot_covered }
