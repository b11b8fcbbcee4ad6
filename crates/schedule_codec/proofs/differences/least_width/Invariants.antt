use Rattle.std.proofs.Common.{◌≡◌, ◌-◌}
use Rattle.schedule_codec.specs.Packing.{fit}
use Rattle.schedule_codec.specs.OwnerLists.{least_passing, width_of}
use Rattle.schedule_codec.proofs.differences.least_width.Given as goal

abbrev pub invariant-loop-width : goal.invariant-loop-width
invariant-loop-width l = least_passing (10 - l.width) l.width (λ w. fit w l.differences) ≡ width_of l.differences
