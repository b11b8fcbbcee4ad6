use Rattle.std.proofs.Common.{◌≡◌, ◌++◌, ℕ, All, map, take, drop, filter_map}
use Rattle.plain_bus.specs.BusNodes.{BusNode, IsEarlyState}
use Rattle.plain_bus.specs.Closings.{Behind, IsBehind, AllMay, closed_node, delivers_node}
use Rattle.plain_bus.proofs.closing.close_all.Given as goal

abbrev pub invariant-loop-node : goal.invariant-loop-node
invariant-loop-node l = record {
  place : l.place ≡ l.node-index;
  done : (b : Behind) (n : ℕ → BusNode) → IsBehind b l.ids l.windows l.stations → l.fn.nodes ≡ map n l.ids → AllMay l.slot.frame b l.ids n
      → take l.node-index l.nodes ≡ take l.node-index (map (closed_node b l.slot.frame l.slot.part n) l.ids);
  todo : drop l.node-index l.nodes ≡ drop l.node-index l.fn.nodes;
  log : (b : Behind) (n : ℕ → BusNode) → IsBehind b l.ids l.windows l.stations → l.fn.nodes ≡ map n l.ids → AllMay l.slot.frame b l.ids n
      → l.log.items ≡ l.fn.log.items ++ filter_map (delivers_node b l.slot.rank l.slot.frame l.slot.number l.slot.part n) (take l.node-index l.ids);
  early : All (λ (x : BusNode). IsEarlyState l.slot.frame x.state) (take l.node-index l.nodes);
}
