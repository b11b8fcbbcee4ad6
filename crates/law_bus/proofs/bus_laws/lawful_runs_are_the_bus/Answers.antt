use Rattle.law_bus.proofs.BusRuns.{bus_run}
use Rattle.law_bus.proofs.bus_laws.lawful_runs_are_the_bus.Goals as goal

pub returns : goal.returns
returns c = bus_run
