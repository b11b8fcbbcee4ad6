use Rattle.std.proofs.Common.{◌≡◌, filter_map}
use Rattle.std.specs.Prelude.{flat_map}
use Rattle.std.specs.List.{range_with_len}
use Rattle.host_return.specs.TrailsInOrder.{idle_told}
use Rattle.host_return.proofs.idle_trails.idle_by_trails.Given as goal

abbrev pub invariant-loop-frame : goal.invariant-loop-frame
invariant-loop-frame l = l.idle.items ≡ flat_map (λ f. filter_map (idle_told f) l.trails.items) (range_with_len 0 l.frame)
