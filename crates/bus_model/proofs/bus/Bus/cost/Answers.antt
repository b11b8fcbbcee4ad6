use Rattle.std.proofs.Common.{◌≡◌, ◌<◌, ℕ, List, Bool, Option, Some, None, if◌then◌else◌, length, map, get_or, subst, sym, ◌∙◌, ap, arith, rules}
use Rattle.std.specs.Prelude.{slice_get}
use Rattle.std.proofs.lemmas.List.{get_or-map}
use Rattle.std.proofs.lemmas.Option.{slice_get-get_or}
use Rattle.bus_terms.specs.Bus.{Cost, bus_cost}
use Rattle.bus_terms.specs.FloodOfText.{ids}
use Rattle.bus_terms.specs.Flooding.{has}
use Rattle.plain_bus.proofs.TextFloods.{has_element, has_known}
use Rattle.bus_model.specs.BusRuns.{BusRun}
use Rattle.bus_model.proofs.bus.Bus.cost.Goals as goal

pub returns-in-Some-clause-bus : goal.returns-in-Some-clause-bus
returns-in-Some-clause-bus c s run =
    let i = c.in-Some.place in
    let v = c.args.node in
    let at : c.index.result.now ≡ get_or c.self.inside.costs.items i c.index.result.now = search rules in
    let nodes : c.deref.result.now ≡ ids s.nodes = c.deref.ensures.value ∙ ap (λ (b : BusRun). b.ids) c.self.view_is ∙ run.nodes in
    let costs : c.self.inside.costs.items ≡ map (bus_cost s) (ids s.nodes) = ap (λ (b : BusRun). b.costs) c.self.view_is ∙ run.each_cost in
    let place = c.in-Some.ensures.place in
    let below : i < length (ids s.nodes) = subst (λ (l : List ℕ). i < length l) nodes place.0 in
    let here : get_or (ids s.nodes) i 0 ≡ v = ap (λ (l : List ℕ). get_or l i 0) (sym nodes) ∙ place.1 in
    let some : Cost → Option Cost = λ x. Some x in
    ap some (at ∙ ap (λ (l : List Cost). get_or l i c.index.result.now) costs ∙ get_or-map (bus_cost s) (ids s.nodes) i 0 c.index.result.now below
    ∙ ap (bus_cost s) here)
    ∙ ap (λ (b : Bool). if b then Some (bus_cost s v) else None)
    (sym (has_known s.nodes v ∙ ap (has (ids s.nodes)) (sym here) ∙ has_element (ids s.nodes) i below))

pub returns-in-None-clause-bus : goal.returns-in-None-clause-bus
returns-in-None-clause-bus c s run =
    let v = c.args.node in
    let nodes : c.deref.result.now ≡ ids s.nodes = c.deref.ensures.value ∙ ap (λ (b : BusRun). b.ids) c.self.view_is ∙ run.nodes in
    ap (λ (b : Bool). if b then Some (bus_cost s v) else None) (sym (has_known s.nodes v ∙ ap (λ (l : List ℕ). has l v) (sym nodes) ∙ c.in-None.ensures.none))

pub returns-in-Some-clause-some : goal.returns-in-Some-clause-some
returns-in-Some-clause-some c =
    let i = c.in-Some.place in
    let x = c.index.result.now in
    let at : x ≡ get_or c.self.inside.costs.items i x = search rules in
    let ids : c.deref.result.now ≡ c.args.self.now.ids = c.deref.ensures.value ∙ ap (λ (b : BusRun). b.ids) c.self.view_is in
    let costs : c.self.inside.costs.items ≡ c.args.self.now.costs = ap (λ (b : BusRun). b.costs) c.self.view_is in
    let size = c.self.invariant.1 in
    let place = c.in-Some.ensures.place in
    let within : i < length c.self.inside.costs.items = omega (arith, place.0, size, ap length c.deref.ensures.value) in
    let some : Cost → Option Cost = λ y. Some y in
    record {
      place = i;
      below = subst (λ (l : List ℕ). i < length l) ids place.0;
      here = ap (λ (l : List ℕ). get_or l i 0) (sym ids) ∙ place.1;
      is = ap (λ (l : List Cost). slice_get l i) (sym costs) ∙ slice_get-get_or c.self.inside.costs.items i x within ∙ ap some (sym at);
    }

pub returns-in-None-clause-none : goal.returns-in-None-clause-none
returns-in-None-clause-none c =
    let v = c.args.node in
    let ids : c.deref.result.now ≡ c.args.self.now.ids = c.deref.ensures.value ∙ ap (λ (b : BusRun). b.ids) c.self.view_is in
    ap (λ (l : List ℕ). has l v) (sym ids) ∙ c.in-None.ensures.none
