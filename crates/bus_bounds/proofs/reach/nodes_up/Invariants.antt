use Rattle.std.proofs.Common.{◌≡◌, take}
use Rattle.bus_terms.specs.FloodOfText.{ids}
use Rattle.bus_bounds.specs.JoinFindings.{nodes_up}
use Rattle.bus_bounds.proofs.reach.nodes_up.Given as goal

abbrev pub invariant-loop-line : goal.invariant-loop-line
invariant-loop-line l = l.up.items ≡ nodes_up l.lines (ids (take l.line-index l.nodes)) l.host l.frame
