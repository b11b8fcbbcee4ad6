use Rattle.bus_terms.proofs.ReachByDistance.{accepts_at_distance}
use Rattle.bus_terms.proofs.flood_laws.accepts_by_distance.Goals as goal

pub returns : goal.returns
returns c = accepts_at_distance
