use Rattle.std.proofs.Common.{◌≡◌, filter, map}
use Rattle.std.specs.List.{range_with_len}
use Rattle.bus_bounds.specs.BoundFindings.{first_finding}
use Rattle.bus_bounds.specs.PowerLines.{boots_in}
use Rattle.bus_bounds.proofs.first_rounds.boots.Given as goal

abbrev pub invariant-loop-frame : goal.invariant-loop-frame
invariant-loop-frame l = l.found.items ≡ map (first_finding l.lines l.run l.host) (filter (boots_in l.lines l.host) (range_with_len 0 l.frame))
