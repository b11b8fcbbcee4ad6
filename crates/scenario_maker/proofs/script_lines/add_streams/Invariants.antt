use Rattle.std.proofs.Common.{◌≡◌, ◌++◌, map}
use Rattle.std.specs.List.{range_with_len}
use Rattle.scenario_maker.specs.Drawn.{later}
use Rattle.scenario_maker.specs.Made.{stream_line}
use Rattle.scenario_maker.proofs.script_lines.add_streams.Given as goal

abbrev pub invariant-loop-k : goal.invariant-loop-k
invariant-loop-k l = record {
  lines : l.lines.items ≡ l.fn.lines.items ++ map (stream_line l.fn.draws) (range_with_len 2 l.k);
  draws : l.draws ≡ later l.k l.fn.draws;
}
