use Rattle.std.proofs.Common.{◌≡◌, [], Some, flat_map, if◌then◌else◌}
use Rattle.std.specs.List.{range_with_len}
use Rattle.bus_bounds.specs.JoinFindings.{of_node}
use Rattle.bus_bounds.specs.PowerLines.{boots_in}
use Rattle.bus_bounds.proofs.joining.after_each.Given as goal

abbrev pub invariant-loop-frame : goal.invariant-loop-frame
invariant-loop-frame l =
    l.found.items
    ≡ flat_map (λ b. if boots_in l.lines l.host b then flat_map (of_node l.scenario l.ratios.lines l.host (Some b)) l.nodes else [])
    (range_with_len 0 l.frame)
