use Rattle.std.proofs.Common.{◌≡◌, replicate}
use Rattle.world_engine.proofs.field_counts.none_scanned.Given as goal

abbrev pub invariant-loop : goal.invariant-loop
invariant-loop l = l.scanned.items ≡ replicate l.counter 0
