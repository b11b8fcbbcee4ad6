use Rattle.std.proofs.Common.{◌≡◌, map, take, drop}
use Rattle.bus_model.specs.FrameNodes.{ended_at}
use Rattle.bus_model.proofs.all_nodes.end_all.Given as goal

abbrev pub invariant-loop-node : goal.invariant-loop-node
invariant-loop-node l = record {
  done : take l.node-index l.nodes ≡ take l.node-index (map (ended_at l.frame) l.fn.nodes);
  todo : drop l.node-index l.nodes ≡ drop l.node-index l.fn.nodes;
}
