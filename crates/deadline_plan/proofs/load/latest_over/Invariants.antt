use Rattle.std.proofs.Common.{◌≡◌, ◌-◌, ◌*◌, ◌≤◌, ◌<◌, ℕ}
use Rattle.deadline_plan.specs.Load.{sum_from}
use Rattle.deadline_plan.proofs.load.latest_over.Given as goal

abbrev pub invariant-loop-from : goal.invariant-loop-from
invariant-loop-from l = record {
  before : l.from ≤ l.until;
  demand : l.demand ≡ sum_from l.released l.from (l.until - l.from);
  small : l.demand ≤ 131072 * (l.until - l.from);
  room : l.room ≡ l.slots * (l.until - l.from);
  few : l.room ≤ 40 * (l.until - l.from);
  within : (a : ℕ) → l.from ≤ a → a < l.until → sum_from l.released a (l.until - a) ≤ l.slots * (l.until - a);
}

abbrev pub decreases-loop-from : goal.decreases-loop-from
decreases-loop-from l = l.from
