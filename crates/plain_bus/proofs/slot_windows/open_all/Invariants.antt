use Rattle.std.proofs.Common.{◌≡◌, All, map, take, drop}
use Rattle.plain_bus.specs.BusNodes.{BusNode, IsEarlyState, node_opened}
use Rattle.plain_bus.specs.SlotFloods.{seen_window, seen_of}
use Rattle.plain_bus.proofs.slot_windows.open_all.Given as goal

abbrev pub invariant-loop-node : goal.invariant-loop-node
invariant-loop-node l = record {
  done : take l.node-index l.nodes ≡ take l.node-index (map (node_opened l.rank l.frame l.part) l.fn.nodes);
  todo : drop l.node-index l.nodes ≡ drop l.node-index l.fn.nodes;
  early : All (λ (x : BusNode). IsEarlyState l.frame x.state) (take l.node-index l.nodes);
  seen : map seen_window l.windows.items ≡ take l.node-index (map (seen_of l.rank l.frame l.part) l.fn.nodes);
}
