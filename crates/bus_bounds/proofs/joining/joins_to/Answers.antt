use Rattle.bus_bounds.proofs.JoinPieces.{known_host}
use Rattle.bus_bounds.proofs.joining.joins_to.Goals as goal

pub joins_of-requires-clause-known : goal.joins_of-requires-clause-known
joins_of-requires-clause-known c = known_host c.args.scenario.now c.script.ensures.said c.args.host c.requires
