use Rattle.drawn_links.proofs.DrawnByLinks.{coin_small, all_pass, none_pass}
use Rattle.drawn_links.proofs.laws.coins_are_parts.Goals as goal

pub returns : goal.returns
returns c = record { below = coin_small; always = all_pass; never = none_pass }
