use Rattle.law_bus.proofs.CoresOfWindows.{run_law}
use Rattle.law_bus.proofs.run_laws.runs_are_the_bus.Goals as goal

pub returns : goal.returns
returns c = run_law
