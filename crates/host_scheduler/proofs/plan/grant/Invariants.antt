use Rattle.std.proofs.Common.{◌≡◌, take}
use Rattle.host_scheduler.specs.Debts.{granted_all}
use Rattle.host_scheduler.proofs.plan.grant.Given as goal

abbrev pub invariant-loop-code : goal.invariant-loop-code
invariant-loop-code l = record {
  owners : l.owners ≡ take l.code-index l.codes;
  table : l.table ≡ granted_all (take l.code-index l.codes) l.initial.table;
}
