use Rattle.std.proofs.Common.{◌≡◌, length, ◌-◌}
use Rattle.world_engine.specs.SortedRuns.{KeepsTies}
use Rattle.world_engine.proofs.deliveries.sort_slots.Given as goal

abbrev pub invariant-loop-first : goal.invariant-loop-first
invariant-loop-first l = record {
  ties : KeepsTies l.fn.deliveries l.deliveries;
  many : length l.deliveries ≡ length l.fn.deliveries;
}

abbrev pub decreases-loop-first : goal.decreases-loop-first
decreases-loop-first l = length l.deliveries - l.first
