use Rattle.std.proofs.Common.{◌≡◌, take, false}
use Rattle.std.specs.List.{list_any}
use Rattle.radio_model.specs.Receptions.{repeats_from}
use Rattle.radio_model.proofs.captured.comes_from.Given as goal

abbrev pub invariant-loop-y : goal.invariant-loop-y
invariant-loop-y l = list_any (repeats_from l.profile l.trace.lines l.node l.x l.sender) (take l.y-index l.near) ≡ false
