use Rattle.std.proofs.Common.{◌≡◌, ◌++◌, map, filter}
use Rattle.std.specs.List.{range_with_len}
use Rattle.scenario_maker.specs.Made.{node_puts, made_put_line}
use Rattle.scenario_maker.proofs.script_lines.add_puts.Given as goal

abbrev pub invariant-loop-k : goal.invariant-loop-k
invariant-loop-k l = l.lines.items ≡ l.fn.lines.items ++ map (made_put_line l.frame) (filter (node_puts l.frame) (range_with_len 2 l.k))
