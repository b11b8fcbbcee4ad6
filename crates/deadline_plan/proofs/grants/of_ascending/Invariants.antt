use Rattle.std.proofs.Common.{◌≡◌, take}
use Rattle.deadline_plan.proofs.grants.of_ascending.Given as goal

abbrev pub invariant-loop-owner : goal.invariant-loop-owner
invariant-loop-owner l = l.round ≡ take l.owner-index l.owners
