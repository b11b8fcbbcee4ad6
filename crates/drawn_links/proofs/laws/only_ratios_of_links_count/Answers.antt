use Rattle.drawn_links.proofs.DrawnByLinks.{same_losses}
use Rattle.drawn_links.proofs.laws.only_ratios_of_links_count.Goals as goal

pub returns : goal.returns
returns c = same_losses
