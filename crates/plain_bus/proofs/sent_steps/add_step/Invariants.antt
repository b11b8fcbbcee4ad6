use Rattle.std.proofs.Common.{◌≡◌, ℕ, length}
use Rattle.std.specs.Int.{bit_at}
use Rattle.lwb_base.specs.declared.limits.TheConstants.{MOST_NODES}
use Rattle.plain_bus.proofs.StepsAdded.{AreStepped}
use Rattle.plain_bus.proofs.sent_steps.add_step.Given as goal

abbrev pub invariant-loop-rest : goal.invariant-loop-rest
invariant-loop-rest l = record {
  left : (k : ℕ) → bit_at l.rest k ≡ 1 → bit_at l.fn.nodes k ≡ 1;
  size : length l.all ≡ MOST_NODES;
  each : AreStepped l.step l.fn.nodes l.rest l.fn.all l.all;
}

abbrev pub decreases-loop-rest : goal.decreases-loop-rest
decreases-loop-rest l = l.rest
