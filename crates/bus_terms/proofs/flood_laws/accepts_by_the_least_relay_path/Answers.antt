use Rattle.bus_terms.proofs.LeastPaths.{hears_path, accepts_least, accepts_some}
use Rattle.bus_terms.proofs.flood_laws.accepts_by_the_least_relay_path.Goals as goal

pub returns : goal.returns
returns c = record { hears = hears_path; least = accepts_least; some = accepts_some }
