use Rattle.std.proofs.Common.{◌≡◌, ◌*◌, map}
use Rattle.std.specs.List.{range_with_len}
use Rattle.scenario_maker.specs.Drawn.{later}
use Rattle.scenario_maker.specs.Made.{with_pairs, random_pair}
use Rattle.scenario_maker.proofs.links.add_random_pairs.Given as goal

abbrev pub invariant-loop-k : goal.invariant-loop-k
invariant-loop-k l = record {
  lines : l.trace.lines ≡ record l.fn.trace.lines { links = with_pairs l.fn.trace.lines.links (map (random_pair l.fn.draws l.nodes) (range_with_len 0 l.k)) };
  draws : l.draws ≡ later (2 * l.k) l.fn.draws;
}
