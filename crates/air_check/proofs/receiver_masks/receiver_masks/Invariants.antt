use Rattle.std.proofs.Common.{◌≡◌, length}
use Rattle.radio_model.specs.Reaches.{IsReceivedBy}
use Rattle.radio_model.proofs.AreReached.{EachOf}
use Rattle.air_check.proofs.receiver_masks.receiver_masks.Given as goal

abbrev pub invariant-loop-x : goal.invariant-loop-x
invariant-loop-x l = record {
  one_each : length l.masks.items ≡ l.x-index;
  each : EachOf (IsReceivedBy l.fn.s.profile l.fn.s.trace l.fn.nodes l.fn.sent.sent) l.fn.sent.sent l.x-index l.masks.items;
}
