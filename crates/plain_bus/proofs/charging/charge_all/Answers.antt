use Rattle.std.proofs.Common.{◌≡◌, ◌<◌, ◌==◌, ◌+◌, ℕ, List, Bool, All, length, take, get_or, if◌then◌else◌, subst, sym, ◌∙◌, ap, arith}
use Rattle.std.proofs.lemmas.List.{take_all, get_or_default, get_or-map, take_more_set}
use Rattle.std.proofs.lemmas.List.Elements.{All-push}
use Rattle.bus_terms.specs.Bus.{Cost}
use Rattle.plain_bus.specs.BusNodes.{BusNode}
use Rattle.plain_bus.specs.SlotCosts.{IsBelow, charged, slot_charged}
use Rattle.plain_bus.proofs.ListsInPlace.{same_place, rest_unchanged, one_more_mapped}
use Rattle.plain_bus.proofs.charging.charge_all.Goals as goal

pub charge-requires-clause-room : goal.charge-requires-clause-room
charge-requires-clause-room c =
    let i = c.loop-cost.cost-index in
    let olds = c.args.costs.now in
    let d : Cost = get_or c.loop-cost.costs i c.cost-item.result in
    let size = c.loop-cost.auto.costs in
    let below : i < length olds = omega (arith, c.loop-cost-test.true, size) in
    let at : d ≡ get_or olds i d = same_place c.loop-cost.costs olds i c.cost-item.result c.loop-cost.invariant.todo
    ∙ get_or_default olds i c.cost-item.result d below in
    subst (λ (x : Cost). IsBelow 1048576 x) (sym at) (c.requires.room i d below)

pub loop-cost-preserved : goal.loop-cost-preserved
loop-cost-preserved c =
    let i = c.loop-cost.cost-index in
    let olds = c.args.costs.now in
    let now = c.loop-cost.costs in
    let ids = c.args.setting.now.ids.now in
    let d : Cost = get_or now i c.cost-item.result in
    let y = c.charge.new.cost in
    let node = c.index-nodes-place.result in
    let v : ℕ = get_or ids i 0 in
    let size = c.loop-cost.auto.costs in
    let place = c.loop-cost.invariant.place in
    let below : i < length olds = omega (arith, c.loop-cost-test.true, size) in
    let there : i < length now = omega (arith, c.loop-cost-test.true, size) in
    let in_ids : i < length ids = omega (arith, below, c.requires.ids) in
    let in_nodes : i < length c.args.nodes.now = omega (arith, below, c.requires.nodes) in
    let at : d ≡ get_or olds i d = same_place now olds i c.cost-item.result c.loop-cost.invariant.todo ∙ get_or_default olds i c.cost-item.result d below in
    let node_at : node ≡ get_or c.args.nodes.now i node = c.index-nodes-place.is ∙ ap (λ (k : ℕ). get_or c.args.nodes.now k node) place in
    record {
      place = ap (λ (k : ℕ). k + 1) place;
      done = λ b n cost sends behind are nodes costs some.
          (let p = c.args.setting.now.profile in
          let limit = c.args.setting.now.limit in
          let rank = c.args.rank in
          let node_is : node ≡ n v = node_at ∙ ap (λ (l : List BusNode). get_or l i node) nodes ∙ get_or-map n ids i 0 node in_ids in
          let cost_is : d ≡ cost v = at ∙ ap (λ (l : List Cost). get_or l i d) costs ∙ get_or-map cost ids i 0 d in_ids in
          let own : c.eq-is_own.result ≡ ((n v).rank == rank) = c.eq-is_own.ensures ∙ ap (λ (x : BusNode). x.rank == rank) (c.node.view_is ∙ node_is) in
          let made : y ≡ slot_charged p rank limit b sends n cost v =
          c.charge.ensures.cost b sends behind are some
          ∙ ap (λ (k : ℕ). if c.eq-is_own.result then charged p limit b sends (get_or ids k 0) d else d) place
          ∙ ap (λ (o : Bool). if o then charged p limit b sends v d else d) own
          ∙ ap (λ (z : Cost). if (n v).rank == rank then charged p limit b sends v z else z) cost_is in
          take_more_set now i y there
          ∙ one_more_mapped (slot_charged p rank limit b sends n cost) ids i v (take i now) y in_ids (get_or_default ids i 0 v in_ids)
          (c.loop-cost.invariant.done b n cost sends behind are nodes costs some) made);
      todo = rest_unchanged olds now i y c.loop-cost.invariant.todo;
      room = λ m fits. subst (λ (l : List Cost). All (IsBelow (m + 1)) l) (sym (take_more_set now i y there))
          (All-push (IsBelow (m + 1)) (take i now) y (c.loop-cost.invariant.room m fits)
          (c.charge.ensures.room m (subst (λ (x : Cost). IsBelow m x) (sym at) (fits i d below))));
    }

pub returns-clause-room : goal.returns-clause-room
returns-clause-room c m fits =
    subst (λ (l : List Cost). All (IsBelow (m + 1)) l)
    (take_all c.loop-cost.cost-index c.loop-cost.costs (let size = c.loop-cost.auto.costs in omega (arith, c.loop-cost-test.false, size)))
    (c.loop-cost.invariant.room m fits)
