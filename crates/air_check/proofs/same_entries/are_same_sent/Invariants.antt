use Rattle.std.proofs.Common.{◌≡◌, take}
use Rattle.air_check.proofs.same_entries.are_same_sent.Given as goal

abbrev pub invariant-loop-i : goal.invariant-loop-i
invariant-loop-i l = take l.i l.made ≡ take l.i l.logged
