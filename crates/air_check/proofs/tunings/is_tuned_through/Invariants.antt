use Rattle.std.proofs.Common.{◌≤◌, ◌<◌, ◌-◌, ℕ}
use Rattle.radio_model.specs.Hearing.{Scene, IsTuned}
use Rattle.air_check.specs.Tunings.{AreTuned}
use Rattle.air_check.proofs.tunings.is_tuned_through.Given as goal

abbrev pub invariant-loop-t : goal.invariant-loop-t
invariant-loop-t l = record {
  since : l.x.start ≤ l.t;
  so_far : (a : Scene) → AreTuned a.tunings l.tuned → (w : ℕ) → l.x.start ≤ w → w < l.t → IsTuned a l.node l.x.rank w;
}

abbrev pub decreases-loop-t : goal.decreases-loop-t
decreases-loop-t l = l.x.end - l.t
