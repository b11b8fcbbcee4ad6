use Rattle.std.proofs.Common.{◌≡◌, ◌+◌, ◌++◌, [], filter, map, take}
use Rattle.host_scheduler.specs.Debts.{code_of_debt, owed_beyond}
use Rattle.host_scheduler.proofs.turns.give_turn.Given as goal

abbrev pub invariant-loop-debt : goal.invariant-loop-debt
invariant-loop-debt l = record {
  given : l.given.items ≡ take 40 (l.initial.given.items ++ map code_of_debt (take l.debt-index l.line));
  rest : l.rest.items ≡ [] ++ filter (owed_beyond (l.turn + 1)) (take l.debt-index l.line);
}
