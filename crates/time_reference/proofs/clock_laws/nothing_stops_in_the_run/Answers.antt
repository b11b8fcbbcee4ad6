use Rattle.time_reference.proofs.Run.{no_stop, no_stop_reading}
use Rattle.time_reference.proofs.clock_laws.nothing_stops_in_the_run.Goals as goal

pub returns : goal.returns
returns c = record { times = no_stop; readings = no_stop_reading }
