use Rattle.world_engine.proofs.CountedPlaces.{IsCountedUpto}
use Rattle.world_engine.proofs.field.Field.count_scanners.Given as goal

abbrev pub invariant-loop-place : goal.invariant-loop-place
invariant-loop-place l = IsCountedUpto l.self.devices l.place l.fn.scanned.items l.scanned.items
