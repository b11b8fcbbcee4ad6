use Rattle.std.proofs.Common.{◌≡◌, ◌+◌, ◌++◌, ◌∷◌, [], ℕ, List, map, take, get_or, sym, ◌∙◌, ap, arith, rules}
use Rattle.std.proofs.lemmas.List.{take_all}
use Rattle.scenario_text.specs.declared.lines.NodeLine.{NodeLine}
use Rattle.bus_rules.specs.declared.delivery.Delivery.{Delivery}
use Rattle.bus_terms.specs.Bus.{Cost}
use Rattle.bus_terms.specs.FloodOfText.{ids}
use Rattle.bus_terms.specs.declared.packets.SentPacket.{SentPacket}
use Rattle.plain_bus.specs.BusNodes.{BusNode}
use Rattle.plain_bus.specs.Networks.{Network, no_cost, node_at_first}
use Rattle.plain_bus.specs.declared.station.Flood.{Flood}
use Rattle.plain_bus.proofs.ListsInPlace.{map_more}
use Rattle.plain_bus.proofs.SlotsMet.{ids_more}
use Rattle.plain_bus.proofs.network.Network.new.Goals as goal

pub loop-line-preserved : goal.loop-line-preserved
loop-line-preserved c =
    let lines = c.nodes-lines.result.now in
    let i = c.loop-line.line-index in
    let line : NodeLine = get_or lines i c.line-item.result in
    let more : ids (take (i + 1) lines) ≡ ids (take i lines) ++ c.line-item.result.node ∷ [] =
    ids_more lines i c.line-item.result c.loop-line-test.true c.line-item.is in
    let ids_pushed : c.push.new.self.items ≡ c.loop-line.ids.items ++ c.line-item.result.node ∷ [] = search rules in
    let nodes_pushed : c.push-in-loop-line.new.self.items ≡ c.loop-line.nodes.items ++ c.in_ok-node.node ∷ [] = search rules in
    let costs_pushed : c.push-in-loop-line-2.new.self.items ≡ c.loop-line.costs.items ++ no_cost ∷ [] = search rules in
    record {
      ids_are = ids_pushed ∙ ap (λ (l : List ℕ). l ++ c.line-item.result.node ∷ []) c.loop-line.invariant.ids_are ∙ sym more;
      nodes_are = nodes_pushed ∙ ap (λ (l : List BusNode). l ++ c.in_ok-node.node ∷ []) c.loop-line.invariant.nodes_are
          ∙ ap (λ (n : BusNode). map (node_at_first c.args.s.now) (ids (take i lines)) ++ n ∷ []) c.in_ok-node.ensures
          ∙ sym (ap (map (node_at_first c.args.s.now)) more ∙ map_more (node_at_first c.args.s.now) (ids (take i lines)) c.line-item.result.node);
      costs_are = costs_pushed ∙ ap (λ (l : List Cost). l ++ no_cost ∷ []) c.loop-line.invariant.costs_are
          ∙ sym (ap (map (λ (v : ℕ). no_cost)) more ∙ map_more (λ (v : ℕ). no_cost) (ids (take i lines)) c.line-item.result.node);
    }

pub returns : goal.returns
returns c =
    let all : take c.loop-line.line-index c.nodes-lines.result.now ≡ c.args.s.now.nodes =
    take_all c.loop-line.line-index c.nodes-lines.result.now (omega (arith, c.loop-line-test.false, c.loop-line.auto.line-index-end))
    ∙ c.nodes-lines.ensures.value in
    let of_parts : List ℕ → List BusNode → List Cost → List Delivery → Network =
    λ a b cs ds. record { ids = a; nodes = b; costs = cs; deliveries = ds; sent = c.new-2.result.items; floods = c.new-3.result.items } in
    let of_lists : List NodeLine → List SentPacket → List Flood → Network =
    λ ls ps xs. record {
      ids = ids ls;
      nodes = map (node_at_first c.args.s.now) (ids ls);
      costs = map (λ (v : ℕ). no_cost) (ids ls);
      deliveries = [];
      sent = ps;
      floods = xs;
    } in
    ap (λ (l : List ℕ). of_parts l c.loop-line.nodes.items c.loop-line.costs.items c.new.result.items) c.loop-line.invariant.ids_are
    ∙ ap (λ (l : List BusNode). of_parts (ids (take c.loop-line.line-index c.nodes-lines.result.now)) l c.loop-line.costs.items c.new.result.items)
    c.loop-line.invariant.nodes_are
    ∙ ap (λ (l : List Cost). of_parts (ids (take c.loop-line.line-index c.nodes-lines.result.now))
    (map (node_at_first c.args.s.now) (ids (take c.loop-line.line-index c.nodes-lines.result.now))) l c.new.result.items) c.loop-line.invariant.costs_are
    ∙ ap (λ (l : List Delivery). of_parts (ids (take c.loop-line.line-index c.nodes-lines.result.now))
    (map (node_at_first c.args.s.now) (ids (take c.loop-line.line-index c.nodes-lines.result.now)))
    (map (λ (v : ℕ). no_cost) (ids (take c.loop-line.line-index c.nodes-lines.result.now))) l) c.new.ensures.items
    ∙ ap (λ (l : List NodeLine). of_lists l c.new-2.result.items c.new-3.result.items) all
    ∙ ap (λ (ps : List SentPacket). of_lists c.args.s.now.nodes ps c.new-3.result.items) c.new-2.ensures.items
    ∙ ap (of_lists c.args.s.now.nodes []) c.new-3.ensures.items
