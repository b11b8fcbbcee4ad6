use Rattle.std.proofs.Common.{◌≡◌, ◌<◌, ℕ, false}
use Rattle.bus_rules.specs.Streams.{request_is_due}
use Rattle.node_streams.proofs.streams.Streams.due.Given as goal

abbrev pub invariant-loop-i : goal.invariant-loop-i
invariant-loop-i l = (k : ℕ) → k < l.i → request_is_due l.self k ≡ false
