use Rattle.drawn_links.proofs.DrawnByLinks.{full_ratios}
use Rattle.drawn_links.proofs.laws.full_ratios_draw_nothing.Goals as goal

pub returns : goal.returns
returns c = full_ratios
