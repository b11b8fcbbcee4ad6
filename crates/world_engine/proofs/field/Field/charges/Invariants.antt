use Rattle.world_engine.specs.Fields.{sums_of}
use Rattle.world_engine.proofs.CountedPlaces.{AreChargedUpto}
use Rattle.world_engine.proofs.field.Field.charges.Given as goal

abbrev pub invariant-loop-place : goal.invariant-loop-place
invariant-loop-place l = AreChargedUpto (sums_of l.self) l.scanned l.place l.charges.items
