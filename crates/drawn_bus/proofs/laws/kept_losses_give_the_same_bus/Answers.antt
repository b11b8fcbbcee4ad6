use Rattle.drawn_links.specs.DrawnLosses.{drawn_losses}
use Rattle.drawn_bus.proofs.KeptFloods.{kept_same_bus}
use Rattle.drawn_bus.proofs.laws.kept_losses_give_the_same_bus.Goals as goal

pub returns : goal.returns
returns c = λ s ratios seed t some_hosts. kept_same_bus s some_hosts (drawn_losses s.trace.links ratios seed s.frames) t
