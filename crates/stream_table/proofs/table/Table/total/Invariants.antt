use Rattle.std.proofs.Common.{◌≡◌, ◌≤◌, ◌*◌, take, sum_by}
use Rattle.bus_rules.specs.Granting.{owed_to}
use Rattle.stream_table.proofs.table.Table.total.Given as goal

abbrev pub invariant-loop-entry : goal.invariant-loop-entry
invariant-loop-entry l = record {
  sum : l.sum ≡ sum_by (owed_to l.seconds l.frame) (take l.entry-index l.entry-items);
  bound : l.sum ≤ 83886095 * l.entry-index;
}
