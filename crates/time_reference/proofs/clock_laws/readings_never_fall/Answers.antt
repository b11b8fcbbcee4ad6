use Rattle.tick_clock.proofs.Readings.{one_more, never_back}
use Rattle.time_reference.proofs.clock_laws.readings_never_fall.Goals as goal

pub returns : goal.returns
returns c = record { order = never_back; tick = λ own t clock within. (one_more own t clock within).1 }
