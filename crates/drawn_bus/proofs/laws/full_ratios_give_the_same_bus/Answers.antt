use Rattle.drawn_bus.proofs.RatiosInForce.{full_ratios_alone}
use Rattle.drawn_bus.proofs.laws.full_ratios_give_the_same_bus.Goals as goal

pub returns : goal.returns
returns c = full_ratios_alone
