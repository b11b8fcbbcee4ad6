use Rattle.std.proofs.Common.{◌≡◌, ◌++◌, replicate}
use Rattle.host_scheduler.proofs.debts.push_times.Given as goal

abbrev pub invariant-loop-slot : goal.invariant-loop-slot
invariant-loop-slot l = l.codes.items ≡ l.initial.codes.items ++ replicate l.slot l.code
