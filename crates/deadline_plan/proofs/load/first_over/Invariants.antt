use Rattle.std.proofs.Common.{◌≡◌, ◌-◌, ◌*◌, ◌<◌, ◌≤◌, ℕ, length, count_by, get_or, ◌&&◌, ◌==◌, nat_le}
use Rattle.deadline_plan.specs.Jobs.{jobs, load}
use Rattle.deadline_plan.proofs.load.first_over.Given as goal

abbrev pub invariant-loop-ended : goal.invariant-loop-ended
invariant-loop-ended l = record {
  long : length l.released.items ≡ l.frames;
  counted : (a : ℕ) → a < l.frames → get_or l.released.items a 0 ≡ count_by (λ j. (j.release == a) && nat_le j.end l.ended) (jobs l.frames l.streams);
  nothing : (from until : ℕ) → until ≤ l.ended → from < until → load (jobs l.frames l.streams) from until ≤ l.slots * (until - from);
}
