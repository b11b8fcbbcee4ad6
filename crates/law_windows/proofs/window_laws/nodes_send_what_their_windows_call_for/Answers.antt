use Rattle.law_windows.proofs.WindowFacts.{sends_as_called}
use Rattle.law_windows.proofs.window_laws.nodes_send_what_their_windows_call_for.Goals as goal

pub returns : goal.returns
returns c = sends_as_called
