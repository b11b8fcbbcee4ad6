use Rattle.std.proofs.Common.{◌≡◌, ◌++◌, [], filter, take}
use Rattle.host_scheduler.specs.Debts.{is_owed_from, early}
use Rattle.host_scheduler.proofs.turns.line_from.Given as goal

abbrev pub invariant-loop-debt : goal.invariant-loop-debt
invariant-loop-debt l = l.line.items ≡ [] ++ filter (is_owed_from l.place) (take l.debt-index l.debts)

abbrev pub invariant-loop-debt-2 : goal.invariant-loop-debt-2
invariant-loop-debt-2 l = l.line.items ≡ filter (is_owed_from l.place) l.debts ++ filter (early l.place) (take l.debt-index l.debts)
