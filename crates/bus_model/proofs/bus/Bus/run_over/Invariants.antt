use Rattle.bus_model.specs.RunningBuses.{IsBeforeFrame}
use Rattle.bus_model.proofs.bus.Bus.run_over.Given as goal

abbrev pub invariant-loop-frame : goal.invariant-loop-frame
invariant-loop-frame g l = IsBeforeFrame l.scenario l.frame l.run
