use Rattle.std.proofs.Common.{◌≡◌, ◌∷◌, [], flat_map, take}
use Rattle.bus_bounds.specs.JoinFindings.{never_boots_for}
use Rattle.bus_bounds.specs.declared.finding.Bound.TheVariants.{Joined, Scanning}
use Rattle.bus_bounds.proofs.joining.without_boot.Given as goal

abbrev pub invariant-loop-node : goal.invariant-loop-node
invariant-loop-node l = l.found.items ≡ flat_map (λ v. never_boots_for Joined v ∷ never_boots_for Scanning v ∷ []) (take l.node-index l.nodes)
