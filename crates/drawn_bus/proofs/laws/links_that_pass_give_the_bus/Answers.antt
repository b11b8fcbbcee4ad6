use Rattle.drawn_bus.proofs.SameLinks.{same_links}
use Rattle.drawn_bus.proofs.laws.links_that_pass_give_the_bus.Goals as goal

pub returns : goal.returns
returns c = same_links
