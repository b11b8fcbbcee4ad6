use Rattle.law_windows.proofs.WindowFacts.{open_in_time, close_in_time}
use Rattle.law_windows.proofs.window_laws.windows_keep_to_their_times.Goals as goal

pub returns : goal.returns
returns c = record { opening = open_in_time; closing = close_in_time }
