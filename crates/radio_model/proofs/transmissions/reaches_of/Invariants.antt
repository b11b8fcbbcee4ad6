use Rattle.std.proofs.Common.{◌≡◌, length}
use Rattle.radio_model.specs.Reaches.{IsReach}
use Rattle.radio_model.proofs.AreReached.{EachOf}
use Rattle.radio_model.proofs.transmissions.reaches_of.Given as goal

abbrev pub invariant-loop-x : goal.invariant-loop-x
invariant-loop-x l = record {
  one_each : length l.reaches.items ≡ l.x-index;
  each : EachOf (IsReach l.profile l.trace.lines l.nodes) l.sent l.x-index l.reaches.items;
}
