use Rattle.bus_bounds.proofs.ReachSteps.{AreReached}
use Rattle.bus_bounds.proofs.reach.reached.Given as goal

abbrev pub invariant-loop : goal.invariant-loop
invariant-loop l = AreReached l.scenario l.fn.host l.up l.nodes.items l.counter
