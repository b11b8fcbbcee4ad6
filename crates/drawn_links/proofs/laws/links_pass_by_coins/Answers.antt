use Rattle.drawn_links.proofs.DrawnPasses.{passes_drawn}
use Rattle.drawn_links.proofs.laws.links_pass_by_coins.Goals as goal

pub returns : goal.returns
returns c = passes_drawn
