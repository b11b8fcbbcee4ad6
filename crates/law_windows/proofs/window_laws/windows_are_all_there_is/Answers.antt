use Rattle.law_windows.proofs.ClosedByFrame.{closed_in_frames}
use Rattle.law_windows.proofs.WindowFacts.{stand_by_power, windows_apart, one_a_slot, deliveries_of_windows}
use Rattle.law_windows.proofs.window_laws.windows_are_all_there_is.Goals as goal

pub returns : goal.returns
returns c = record { stand = stand_by_power; apart = windows_apart; closed = closed_in_frames; once = one_a_slot; deliveries = deliveries_of_windows }
