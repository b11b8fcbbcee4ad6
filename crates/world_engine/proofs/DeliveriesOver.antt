-- The end of a run: the deliveries in the field, in order, are those of the trails.
use Rattle.std.proofs.Common.{◌≡◌, ℕ, List, [], ◌∷◌, ◌++◌, map, flat_map, Bool, true, false, ◌==◌, cond, ◌||◌, refl, sym, ◌∙◌, ap, subst, eq-eqb}
use Rattle.std.specs.Prelude.{Contains}
use Rattle.std.specs.List.{filter}
use Rattle.std.proofs.lemmas.Bool.{eqb-true}
use Rattle.std.proofs.lemmas.List.{append-nil}
use Rattle.std.proofs.lemmas.List.Elements.{filter-append, filter_passes, All-contains}
use Rattle.scenario_text.specs.ScenarioParts.{ScenarioParts}
use Rattle.scenario_text.specs.ScenarioFacts.{IsSoundScenario}
use Rattle.scenario_text.specs.FloodParts.{knows, node_id}
use Rattle.scenario_text.specs.declared.lines.NodeLine.{NodeLine}
use Rattle.event_calendar.specs.Orders.{Due}
use Rattle.bus_rules.specs.declared.delivery.Delivery.{Delivery}
use Rattle.air_log.specs.Trails.{run_end}
use Rattle.air_log.specs.Deliveries.{delivery_comes_before, deliveries_of_node, deliveries_of}
use Rattle.lwb_base.specs.Sorting.{in_order}
use Rattle.lwb_base.proofs.Elements.{contains_head, contains_tail, map_contains, Distinct}
use Rattle.world_engine.specs.Fields.{FieldState}
use Rattle.world_engine.specs.FieldSteps.{IsClosed}
use Rattle.world_engine.specs.Moments.{Before}
use Rattle.world_engine.specs.Running.{IsRunning}
use Rattle.world_engine.proofs.DeliveriesInOrder.{same_by_nodes}
use Rattle.world_engine.proofs.NodePlaces.{known_id, distinct_ids, filter_none, not_unknown, id_known}
use Rattle.world_engine.proofs.TrailsOver.{logged, of_known}
use Rattle.air_log.proofs.QuietTicks.{refined}

-- those of one node
abbrev of_node : ℕ → List Delivery → List Delivery
of_node v ds = filter (λ d. d.node == v) ds

of_other : (u v : ℕ) → (u == v) ≡ false → (ds : List Delivery) → of_node v (of_node u ds) ≡ []
of_other u v apart ds = filter_none (λ (d : Delivery). d.node == v) (of_node u ds) (λ d there.
    let of_u : (d.node == u) ≡ true = All-contains (λ (e : Delivery). (e.node == u) ≡ true) (of_node u ds) d
    (filter_passes (λ (e : Delivery). e.node == u) ds) there in
    ap (λ (n : ℕ). n == v) (eqb-true d.node u of_u) ∙ apart)

of_same : (u v : ℕ) → (u == v) ≡ true → (ds : List Delivery) → of_node v (of_node u ds) ≡ of_node v ds
of_same u v same ds = refined (λ (d : Delivery). d.node == v) (λ (d : Delivery). d.node == u)
    (λ d is. eq-eqb d.node u (eqb-true d.node v is ∙ sym (eqb-true u v same))) ds

module _ (ds : List Delivery) (g : NodeLine → List Delivery) where
  -- the lists of nodes with distinct ids have those of one node together
  one_more : (n : NodeLine) (ns : List NodeLine) (v : ℕ) (b : Bool) → (n.node == v) ≡ b → g n ≡ of_node n.node ds → (b ≡ true → knows ns v ≡ false)
      → of_node v (flat_map g ns) ≡ cond (knows ns v) (of_node v ds) []
      → of_node v (g n) ++ of_node v (flat_map g ns) ≡ cond (b || knows ns v) (of_node v ds) []
  one_more n ns v true same is alone rest =
      let none : of_node v (flat_map g ns) ≡ [] = rest ∙ ap (λ (c : Bool). cond c (of_node v ds) []) (alone refl) in
      ap (λ (l : List Delivery). of_node v (g n) ++ l) none ∙ append-nil (of_node v (g n)) ∙ ap (of_node v) is ∙ of_same n.node v same ds
  one_more n ns v false apart is alone rest = ap (λ (l : List Delivery). l ++ of_node v (flat_map g ns)) (ap (of_node v) is ∙ of_other n.node v apart ds) ∙ rest

  unknown_later : (n : NodeLine) (ns : List NodeLine) (v : ℕ) → (Contains (map node_id ns) n.node → ⊥) → (n.node == v) ≡ true → (c : Bool)
      → knows ns v ≡ c → c ≡ false
  unknown_later n ns v apart same true known = absurd
      (apart (subst (λ (u : ℕ). Contains (map node_id ns) u) (sym (eqb-true n.node v same)) (known_id ns v known)))
  unknown_later n ns v apart same false known = refl

  pub of_nodes : (ns : List NodeLine) (v : ℕ) → Distinct (map node_id ns) → ((n : NodeLine) → Contains ns n → g n ≡ of_node n.node ds)
      → of_node v (flat_map g ns) ≡ cond (knows ns v) (of_node v ds) []
  of_nodes [] v distinct each = refl
  of_nodes (n ∷ ns) v distinct each =
      filter-append (λ (d : Delivery). d.node == v) (g n) (flat_map g ns)
      ∙ one_more n ns v (n.node == v) refl (each n (contains_head n ns)) (λ same. unknown_later n ns v distinct.0 same (knows ns v) refl)
      (of_nodes ns v distinct.1 (λ m there. each m (contains_tail n ns m there)))

module _ (s : ScenarioParts) (clocks : ℕ → ℕ → ℕ) (w : FieldState) (due : List Due) (closed : FieldState) (sound : IsSoundScenario s)
    (running : IsRunning s clocks s.script (run_end s) Before w due) (over : IsClosed (run_end s) w due closed) where
  deliverer_known : (d : Delivery) → Contains closed.deliveries d → knows s.nodes d.node ≡ true
  deliverer_known d there = of_known s clocks w due closed running over d.node
      (running.air.holds.deliverers d (subst (λ (l : List Delivery). Contains l d) over.deliveries there))

  only_known : (v : ℕ) (b : Bool) → knows s.nodes v ≡ b → of_node v closed.deliveries ≡ cond b (of_node v closed.deliveries) []
  only_known v true is = refl
  only_known v false is = filter_none (λ (d : Delivery). d.node == v) closed.deliveries (λ d there. not_unknown s.nodes d.node v (deliverer_known d there) is)

  delivered : (n : NodeLine) → Contains s.nodes n → deliveries_of_node s clocks closed.air n ≡ of_node n.node closed.deliveries
  delivered n there = (logged s clocks w due closed running over n.node (id_known s.nodes n.node (map_contains node_id s.nodes n there))).deliveries

  pub deliveries_over : in_order delivery_comes_before closed.deliveries ≡ deliveries_of s clocks closed.air
  deliveries_over = same_by_nodes closed.deliveries (flat_map (deliveries_of_node s clocks closed.air) s.nodes) (λ v.
      only_known v (knows s.nodes v) refl
      ∙ sym (of_nodes closed.deliveries (deliveries_of_node s clocks closed.air) s.nodes v (distinct_ids s.nodes sound.ascending) delivered))
