-- The events of a flood are given apart.
use Rattle.std.proofs.Common.{◌≡◌}
use Rattle.radio_model.specs.declared.sending.Sending.{Sending}
use Rattle.air_log.specs.NodeEvents.{Heard, Ended}

pub ended_not_heard : (x y : Sending) → Ended x ≡ Heard y → ⊥
ended_not_heard x y is = cc

pub heard_not_ended : (x y : Sending) → Heard x ≡ Ended y → ⊥
heard_not_ended x y is = cc
