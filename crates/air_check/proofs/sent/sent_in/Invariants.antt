use Rattle.std.proofs.Common.{◌≡◌, take}
use Rattle.air_log.specs.Entries.{sendings_of}
use Rattle.air_check.proofs.sent.sent_in.Given as goal

abbrev pub invariant-loop-i : goal.invariant-loop-i
invariant-loop-i l = l.sent.items ≡ sendings_of (take l.i l.air)
