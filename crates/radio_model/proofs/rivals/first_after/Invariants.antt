use Rattle.std.proofs.Common.{◌≤◌, length}
use Rattle.radio_model.proofs.rivals.first_after.Given as goal

abbrev pub invariant-loop-first : goal.invariant-loop-first
invariant-loop-first l = l.first ≤ length l.station.ended.items

abbrev pub decreases-loop-first : goal.decreases-loop-first
decreases-loop-first l = l.first
