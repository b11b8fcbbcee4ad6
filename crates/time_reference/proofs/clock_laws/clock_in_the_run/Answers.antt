use Rattle.time_reference.proofs.Run.{in_run}
use Rattle.time_reference.proofs.clock_laws.clock_in_the_run.Goals as goal

pub returns : goal.returns
returns c = in_run
