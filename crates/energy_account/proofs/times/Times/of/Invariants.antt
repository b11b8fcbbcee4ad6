use Rattle.std.proofs.Common.{All, take}
use Rattle.energy_account.specs.Times.{HasTimes, EndsEarly}
use Rattle.energy_account.proofs.times.Times.of.Given as goal

abbrev pub invariant-loop-i : goal.invariant-loop-i
invariant-loop-i l = record {
  times : HasTimes (take l.i l.air) l.times;
  early : All EndsEarly (take l.i l.air);
}
