use Rattle.drawn_bus.proofs.CollectedLosses.{collected, collected_enough}
use Rattle.drawn_bus.proofs.laws.floods_have_the_kept_losses.Goals as goal

pub returns : goal.returns
returns c = record { lines = collected; enough = collected_enough }
