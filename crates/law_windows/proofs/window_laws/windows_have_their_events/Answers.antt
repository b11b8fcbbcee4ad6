use Rattle.law_windows.proofs.WindowEvents.{windows_have_events}
use Rattle.law_windows.proofs.WindowParts.{nodes_take_part}
use Rattle.law_windows.proofs.window_laws.windows_have_their_events.Goals as goal

pub returns : goal.returns
returns c = record { events = windows_have_events; part = nodes_take_part }
