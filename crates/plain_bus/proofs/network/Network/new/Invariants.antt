use Rattle.std.proofs.Common.{◌≡◌, ℕ, map, take}
use Rattle.bus_terms.specs.FloodOfText.{ids}
use Rattle.plain_bus.specs.Networks.{no_cost, node_at_first}
use Rattle.plain_bus.proofs.network.Network.new.Given as goal

abbrev pub invariant-loop-line : goal.invariant-loop-line
invariant-loop-line l = record {
  ids_are : l.ids.items ≡ ids (take l.line-index l.lines);
  nodes_are : l.nodes.items ≡ map (node_at_first l.s) (ids (take l.line-index l.lines));
  costs_are : l.costs.items ≡ map (λ (v : ℕ). no_cost) (ids (take l.line-index l.lines));
}
