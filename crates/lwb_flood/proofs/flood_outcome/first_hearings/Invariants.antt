use Rattle.std.proofs.Common.{take}
use Rattle.lwb_flood.specs.LogReading.{AreFirst}
use Rattle.lwb_flood.proofs.flood_outcome.first_hearings.Given as goal

abbrev pub invariant-loop-i : goal.invariant-loop-i
invariant-loop-i l = AreFirst (take l.i l.air) l.firsts
