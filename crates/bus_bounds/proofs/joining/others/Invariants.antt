use Rattle.std.proofs.Common.{◌≡◌, ◌==◌, not, filter, take}
use Rattle.bus_terms.specs.FloodOfText.{ids}
use Rattle.bus_bounds.proofs.joining.others.Given as goal

abbrev pub invariant-loop-line : goal.invariant-loop-line
invariant-loop-line l = l.others.items ≡ filter (λ v. not (v == l.host)) (ids (take l.line-index l.nodes))
