use Rattle.law_windows.proofs.WindowFacts.{floods_of_windows, history_on_air, hearings_happen}
use Rattle.law_windows.proofs.window_laws.windows_have_their_history.Goals as goal

pub returns : goal.returns
returns c = record { flood = floods_of_windows; history = history_on_air; all = hearings_happen }
