use Rattle.std.proofs.Common.{◌≡◌, map}
use Rattle.std.specs.List.{range_with_len}
use Rattle.scenario_maker.specs.Drawn.{later}
use Rattle.scenario_maker.specs.Made.{with_pairs, tree_pair}
use Rattle.scenario_maker.proofs.links.add_tree.Given as goal

abbrev pub invariant-loop-k : goal.invariant-loop-k
invariant-loop-k l = record {
  lines : l.trace.lines ≡ record l.fn.trace.lines { links = with_pairs l.fn.trace.lines.links (map (tree_pair l.fn.draws) (range_with_len 2 l.k)) };
  draws : l.draws ≡ later l.k l.fn.draws;
}
