use Rattle.std.proofs.Common.{take}
use Rattle.bus_time.specs.Reading.{IsRead}
use Rattle.bus_time.proofs.reading.Reading.of.Given as goal

abbrev pub invariant-loop-i : goal.invariant-loop-i
invariant-loop-i l = IsRead l.profile (take l.i l.air) l.reading.present l.reading.ahead l.reading.beginnings.items
