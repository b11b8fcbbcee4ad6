use Rattle.std.proofs.Common.{arith}
use Rattle.lwb_base.proofs.KnownPieces.{appends_more}
use Rattle.lwb_base.proofs.write.write_all.Goals as goal

pub loop-gone-preserved : goal.loop-gone-preserved
loop-gone-preserved g c = record {
  within = omega (arith, c.in-Ok.ensures.bound);
  bytes = appends_more _ _ _ _ _ _ c.loop-gone.invariant.within c.loop-gone.invariant.bytes c.in-Ok.ensures.bytes;
  later = omega (arith, c.loop-gone.invariant.later, c.put.ensures.cause.later);
}
