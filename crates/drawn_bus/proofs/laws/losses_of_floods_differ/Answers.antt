use Rattle.drawn_bus.proofs.LossesApart.{all_apart, all_new}
use Rattle.drawn_bus.proofs.laws.losses_of_floods_differ.Goals as goal

pub returns : goal.returns
returns c = record { apart = all_apart; new = all_new }
