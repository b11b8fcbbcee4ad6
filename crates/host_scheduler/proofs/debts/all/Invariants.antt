use Rattle.std.proofs.Common.{◌≡◌, take}
use Rattle.host_scheduler.specs.Debts.{all_owed}
use Rattle.host_scheduler.proofs.debts.all.Given as goal

abbrev pub invariant-loop-debt : goal.invariant-loop-debt
invariant-loop-debt l = l.codes.items ≡ all_owed (take l.debt-index l.debts)
