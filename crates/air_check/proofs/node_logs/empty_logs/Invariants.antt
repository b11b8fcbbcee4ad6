use Rattle.std.proofs.Common.{◌≡◌, replicate}
use Rattle.air_check.specs.NodeLogs.{empty_node_log}
use Rattle.air_check.proofs.node_logs.empty_logs.Given as goal

abbrev pub invariant-loop : goal.invariant-loop
invariant-loop l = l.logs.items ≡ replicate l.counter empty_node_log
