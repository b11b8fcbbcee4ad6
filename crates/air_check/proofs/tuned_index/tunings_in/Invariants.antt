use Rattle.std.proofs.Common.{◌≡◌, map, take}
use Rattle.air_log.specs.Entries.{tunings_of}
use Rattle.air_check.specs.Tunings.{tuning_of_tuned}
use Rattle.air_check.proofs.tuned_index.tunings_in.Given as goal

abbrev pub invariant-loop-i : goal.invariant-loop-i
invariant-loop-i l = map tuning_of_tuned l.tunings.items ≡ tunings_of (take l.i l.air)
