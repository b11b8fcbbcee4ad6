use Rattle.std.proofs.Common.{◌≤◌, ◌-◌, length}
use Rattle.air_check.proofs.flags.starting_at.Given as goal

abbrev pub invariant-loop-end : goal.invariant-loop-end
invariant-loop-end l = record {
  from : l.begin ≤ l.end;
  within : l.end ≤ length l.sent;
}

abbrev pub decreases-loop-end : goal.decreases-loop-end
decreases-loop-end l = length l.sent - l.end
