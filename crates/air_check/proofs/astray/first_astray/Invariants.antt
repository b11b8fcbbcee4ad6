use Rattle.std.proofs.Common.{◌≡◌, ◌<◌, ◌≤◌, ℕ, length, get_or}
use Rattle.scenario_clocks.specs.StatedClocks.{scenario_clock}
use Rattle.air_check.specs.NodeLogs.{log_by, empty_node_log}
use Rattle.air_check.specs.Verdicts.{FollowsTrail}
use Rattle.air_check.proofs.astray.first_astray.Given as goal

abbrev pub invariant-loop-id : goal.invariant-loop-id
invariant-loop-id l = record {
  ids : length l.logs.items ≡ 201;
  left : (v : ℕ) → l.id ≤ v → get_or l.logs.items v empty_node_log ≡ log_by l.fn.air v;
  followed : (v : ℕ) → v < l.id → FollowsTrail l.fn.s (scenario_clock l.fn.s) l.fn.air v;
}
