use Rattle.std.proofs.Common.{take}
use Rattle.air_check.specs.NodeLogs.{AreLogsOf}
use Rattle.air_check.proofs.node_logs.logs_by_id.Given as goal

abbrev pub invariant-loop-entry : goal.invariant-loop-entry
invariant-loop-entry l = AreLogsOf (take l.entry-index l.entries) l.logs.items
