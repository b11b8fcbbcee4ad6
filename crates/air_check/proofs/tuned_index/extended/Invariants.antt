use Rattle.std.proofs.Common.{take, drop}
use Rattle.air_check.proofs.Extended.{IsExtended}
use Rattle.air_check.proofs.tuned_index.extended.Given as goal

abbrev pub invariant-loop-e : goal.invariant-loop-e
invariant-loop-e l = IsExtended (take l.e-index l.tunings) (drop l.e-index l.tunings) l.tuned.items
