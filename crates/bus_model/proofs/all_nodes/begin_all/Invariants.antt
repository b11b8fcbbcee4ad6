use Rattle.std.proofs.Common.{◌≡◌, map, take, drop}
use Rattle.bus_model.specs.FrameNodes.{with_round_rank}
use Rattle.bus_model.proofs.all_nodes.begin_all.Given as goal

abbrev pub invariant-loop-node : goal.invariant-loop-node
invariant-loop-node l = record {
  done : take l.node-index l.nodes ≡ take l.node-index (map with_round_rank l.fn.nodes);
  todo : drop l.node-index l.nodes ≡ drop l.node-index l.fn.nodes;
}
