use Rattle.std.proofs.Common.{length, ◌-◌, ◌<◌, ◌≤◌}
use Rattle.world_engine.proofs.deliveries.end_of_slot.Given as goal

abbrev pub invariant-loop-past : goal.invariant-loop-past
invariant-loop-past l = (l.first < l.past) × (l.past ≤ length l.deliveries)

abbrev pub decreases-loop-past : goal.decreases-loop-past
decreases-loop-past l = length l.deliveries - l.past
