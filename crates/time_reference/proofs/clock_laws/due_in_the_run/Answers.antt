use Rattle.time_reference.proofs.Run.{due_in_run, due_past_run}
use Rattle.time_reference.proofs.clock_laws.due_in_the_run.Goals as goal

pub returns : goal.returns
returns c = record { within = due_in_run; past = due_past_run }
