use Rattle.std.proofs.Common.{◌≡◌, ◌*◌, map}
use Rattle.std.specs.List.{range_with_len}
use Rattle.scenario_maker.specs.Drawn.{later}
use Rattle.scenario_maker.specs.Made.{node_line, rate_line}
use Rattle.scenario_maker.proofs.nodes.clocks.Given as goal

abbrev pub invariant-loop-k : goal.invariant-loop-k
invariant-loop-k l = record {
  lines : l.lines.items ≡ map (node_line l.fn.draws) (range_with_len 1 l.k);
  rates : l.rates.items ≡ map (rate_line l.fn.draws) (range_with_len 1 l.k);
  draws : l.draws ≡ later (2 * l.k) l.fn.draws;
}
