use Rattle.std.proofs.Common.{◌≡◌, ℕ, replicate, ◌∙◌, ap, arith}
use Rattle.air_check.specs.NodeLogs.{empty_node_log}
use Rattle.air_check.proofs.NodeLogs.{none_yet}
use Rattle.air_check.proofs.node_logs.empty_logs.Goals as goal

pub returns : goal.returns
returns c =
    let all : c.loop.counter ≡ 201 = omega arith in
    none_yet c.loop.logs.items (c.loop.invariant ∙ ap (λ (n : ℕ). replicate n empty_node_log) all)
