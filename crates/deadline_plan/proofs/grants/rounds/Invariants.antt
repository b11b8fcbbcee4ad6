use Rattle.std.proofs.Common.{◌≡◌, ◌++◌, ◌-◌, map}
use Rattle.deadline_plan.specs.Grants.{grants_from, owners_of_round}
use Rattle.deadline_plan.proofs.grants.rounds.Given as goal

abbrev pub invariant-loop-frame : goal.invariant-loop-frame
invariant-loop-frame l =
    map owners_of_round (grants_from l.slots 0 l.frames l.fn.waiting.items) ≡ l.rounds.items ++ map owners_of_round (grants_from l.slots l.frame
    (l.frames - l.frame) l.waiting.items)
