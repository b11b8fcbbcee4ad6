use Rattle.std.proofs.Common.{◌≡◌, ◌<◌, ◌≤◌, ◌+◌, ℕ, List, length, map, take, get_or, subst, sym, ◌∙◌, ap, arith}
use Rattle.std.proofs.lemmas.List.{take_all, length-map, get_or_default, get_or-map, take_more_set}
use Rattle.lwb_base.specs.declared.limits.TheConstants.{MOST_FRAMES}
use Rattle.bus_terms.specs.Bus.{Cost}
use Rattle.bus_terms.specs.FloodOfText.{ids}
use Rattle.plain_bus.specs.BusNodes.{BusNode, bus_node}
use Rattle.plain_bus.proofs.ListsInPlace.{same_place, rest_unchanged, one_more_mapped}
use Rattle.bus_model.specs.RoundCosts.{with_scan}
use Rattle.bus_model.proofs.all_nodes.count_scans.Goals as goal

pub count_scan-requires : goal.count_scan-requires
count_scan-requires c =
    let i = c.loop-cost.cost-index in
    let olds = c.args.costs.now in
    let d : Cost = get_or c.loop-cost.costs i c.cost-item.result in
    let size = c.loop-cost.auto.costs in
    let below : i < length olds = omega (arith, c.loop-cost-test.true, size) in
    let at : d ≡ get_or olds i d = same_place c.loop-cost.costs olds i c.cost-item.result c.loop-cost.invariant.todo
    ∙ get_or_default olds i c.cost-item.result d below in
    subst (λ (x : Cost). x.scanned ≤ MOST_FRAMES) (sym at) (c.requires.few i d below)

pub loop-cost-preserved : goal.loop-cost-preserved
loop-cost-preserved c =
    let i = c.loop-cost.cost-index in
    let olds = c.args.costs.now in
    let now = c.loop-cost.costs in
    let d : Cost = get_or now i c.cost-item.result in
    let y = c.count_scan.new.cost in
    let node = c.index-nodes-place.result in
    let size = c.loop-cost.auto.costs in
    let place = c.loop-cost.invariant.place in
    let below : i < length olds = omega (arith, c.loop-cost-test.true, size) in
    let there : i < length now = omega (arith, c.loop-cost-test.true, size) in
    let in_nodes : i < length c.args.nodes.now = omega (arith, below, c.requires.nodes) in
    let at : d ≡ get_or olds i d = same_place now olds i c.cost-item.result c.loop-cost.invariant.todo ∙ get_or_default olds i c.cost-item.result d below in
    let node_at : node ≡ get_or c.args.nodes.now i node = c.index-nodes-place.is ∙ ap (λ (k : ℕ). get_or c.args.nodes.now k node) place in
    record {
      place = ap (λ (k : ℕ). k + 1) place;
      done = λ s ranks states cost nodes costs.
          (let v : ℕ = get_or (ids s.nodes) i 0 in
          let in_ids : i < length (ids s.nodes) = omega (arith, below, ap length costs, length-map (ids s.nodes) cost) in
          let node_is : node ≡ bus_node s ranks states v = node_at ∙ ap (λ (l : List BusNode). get_or l i node) nodes
          ∙ get_or-map (bus_node s ranks states) (ids s.nodes) i 0 node in_ids in
          let cost_is : d ≡ cost v = at ∙ ap (λ (l : List Cost). get_or l i d) costs ∙ get_or-map cost (ids s.nodes) i 0 d in_ids in
          take_more_set now i y there
          ∙ one_more_mapped (λ (u : ℕ). with_scan (states u) (cost u)) (ids s.nodes) i v (take i now) y in_ids (get_or_default (ids s.nodes) i 0 v in_ids)
          (c.loop-cost.invariant.done s ranks states cost nodes costs)
          (c.count_scan.ensures ∙ ap (λ (x : BusNode). with_scan x.state d) node_is ∙ ap (with_scan (states v)) cost_is));
      todo = rest_unchanged olds now i y c.loop-cost.invariant.todo;
    }

pub returns : goal.returns
returns c s ranks states cost nodes costs =
    let i = c.loop-cost.cost-index in
    let size = c.loop-cost.auto.costs in
    let f : ℕ → Cost = λ v. with_scan (states v) (cost v) in
    sym (take_all i c.loop-cost.costs (omega (arith, c.loop-cost-test.false, size))) ∙ c.loop-cost.invariant.done s ranks states cost nodes costs
    ∙ take_all i (map f (ids s.nodes)) (omega (arith, c.loop-cost-test.false, size, length-map (ids s.nodes) f, ap length costs, length-map (ids s.nodes) cost))
