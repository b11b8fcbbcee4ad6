use Rattle.law_windows.proofs.WindowFacts.{radios_on}
use Rattle.law_windows.proofs.window_laws.radios_are_on_in_windows.Goals as goal

pub returns : goal.returns
returns c = radios_on
