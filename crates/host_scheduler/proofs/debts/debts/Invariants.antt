use Rattle.std.proofs.Common.{◌≡◌, ◌≤◌, length, take}
use Rattle.std.specs.List.{All}
use Rattle.bus_rules.specs.Granting.{owed_to}
use Rattle.host_scheduler.specs.Debts.{debts_of, IsCode}
use Rattle.host_scheduler.proofs.debts.debts.Given as goal

abbrev pub invariant-loop-i : goal.invariant-loop-i
invariant-loop-i l = record {
  value : l.debts.items ≡ take l.i (debts_of (owed_to l.seconds l.frame) l.table.entries);
  codes : All (λ d. IsCode d.code) l.debts.items;
  few : length l.debts.items ≤ l.i;
}
