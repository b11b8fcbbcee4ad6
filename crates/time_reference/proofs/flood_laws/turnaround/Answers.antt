use Rattle.tick_clock.proofs.DueTicks.{turn}
use Rattle.time_reference.proofs.flood_laws.turnaround.Goals as goal

pub returns : goal.returns
returns c = turn
