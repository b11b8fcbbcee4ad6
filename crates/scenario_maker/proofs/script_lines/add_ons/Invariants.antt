use Rattle.std.proofs.Common.{◌≡◌, ◌++◌, map}
use Rattle.std.specs.List.{range_with_len}
use Rattle.scenario_maker.specs.Made.{on_line}
use Rattle.scenario_maker.proofs.script_lines.add_ons.Given as goal

abbrev pub invariant-loop-k : goal.invariant-loop-k
invariant-loop-k l = l.lines.items ≡ l.fn.lines.items ++ map on_line (range_with_len 1 l.k)
