use Rattle.tick_clock.proofs.Readings.{over_short}
use Rattle.time_reference.proofs.clock_laws.readings_over_short_times.Goals as goal

pub returns : goal.returns
returns c = over_short
