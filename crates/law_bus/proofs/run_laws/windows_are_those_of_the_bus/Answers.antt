use Rattle.law_bus.proofs.CoresOfWindows.{cores_law, windows_law}
use Rattle.law_bus.proofs.run_laws.windows_are_those_of_the_bus.Goals as goal

pub returns : goal.returns
returns c = record { windows = windows_law; cores = cores_law }
