use Rattle.tick_clock.proofs.Readings.{rounding}
use Rattle.time_reference.proofs.clock_laws.readings_keep_pace.Goals as goal

pub returns : goal.returns
returns c = rounding
