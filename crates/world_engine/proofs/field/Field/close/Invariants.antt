use Rattle.world_engine.proofs.FieldClosing.{IsClosedUpto}
use Rattle.world_engine.proofs.field.Field.close.Given as goal

abbrev pub invariant-loop-place : goal.invariant-loop-place
invariant-loop-place l = IsClosedUpto l.t l.place l.fn.self l.self
