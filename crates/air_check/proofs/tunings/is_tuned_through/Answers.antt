use Rattle.std.proofs.Common.{inl, inr, arith}
use Rattle.std.proofs.lemmas.Bool.{cases_lt}
use Rattle.air_check.proofs.tunings.is_tuned_through.Goals as goal

pub loop-t-preserved : goal.loop-t-preserved
loop-t-preserved c = record {
  since = omega (arith, c.loop-t.invariant.since, c.in-Some.ensures.later);
  so_far = λ a are w from to. elim (cases_lt w c.loop-t.t) [
    | inl before ↦ c.loop-t.invariant.so_far a are w from before
    | inr now ↦ (c.in-Some.ensures.until a are).1 w now to
  ];
}
