use Rattle.drawn_bus.proofs.RatiosInForce.{in_force_alike, of_links_alone}
use Rattle.drawn_bus.proofs.laws.ratios_of_links_alone_matter.Goals as goal

pub returns : goal.returns
returns c = record { in_force = in_force_alike; lines = of_links_alone }
