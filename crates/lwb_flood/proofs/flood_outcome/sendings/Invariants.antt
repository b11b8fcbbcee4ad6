use Rattle.std.proofs.Common.{◌≡◌, ◌≤◌, length, take}
use Rattle.air_log.specs.Entries.{sendings_of}
use Rattle.lwb_flood.proofs.flood_outcome.sendings.Given as goal

abbrev pub invariant-loop-i : goal.invariant-loop-i
invariant-loop-i l = record { counted : l.sent ≡ length (sendings_of (take l.i l.air)); few : l.sent ≤ l.i }
