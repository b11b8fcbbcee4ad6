-- The deliveries of the bus, one by one: each is made at a node in a slot of a round.
use Rattle.std.proofs.Common.{◌≡◌, ℕ, ◌+◌, ◌<◌, ◌≤◌, ◌==◌, eq-eqb, List, [], true, Some, None, Option, Contains, flat_map, length}
use Rattle.std.proofs.Common.{refl, sym, ◌∙◌, ap, subst, arith}
use Rattle.std.specs.Option.{option_map_or}
use Rattle.lwb_base.specs.Messages.{Plan}
use Rattle.bus_rules.specs.declared.delivery.Delivery.{Delivery}
use Rattle.bus_rules.specs.Plans.{last_slot}
use Rattle.bus_rules.specs.Slots.{Data, delivery_of}
use Rattle.scenario_text.specs.ScenarioParts.{ScenarioParts}
use Rattle.scenario_text.specs.FloodParts.{knows}
use Rattle.scenario_text.specs.declared.lines.NodeLine.{NodeLine}
use Rattle.lwb_base.proofs.Elements.{any_of, filter_from, from_flat, map_from, in_filter, in_flat, not_in_none}
use Rattle.bus_terms.specs.Bus.{bus_deliveries, frames_of, ranks_of, state_at}
use Rattle.bus_terms.specs.FloodOfText.{ids}
use Rattle.bus_terms.specs.Rounds.{delivery_in_slot, round_deliveries, round_plan, slot_deliveries, slots_of}
use Rattle.bus_terms.proofs.OrderedDeliveries.{mapped}
use Rattle.law_terms.specs.SlotLaws.{IsRound}
use Rattle.lwb_base.proofs.NumbersOfRanges.{in_range, from_range}

-- where a delivery is made
pub record IsMadeOnBus (s : ScenarioParts) (a : Delivery) : Type 0 where
  pub frame : ℕ
  pub rank : ℕ
  pub plan : Plan
  pub round : IsRound s rank frame plan
  pub slot : ℕ
  pub within : slot ≤ last_slot plan
  pub line : NodeLine
  pub named : Contains s.nodes line
  pub delivered : delivery_in_slot s rank frame plan (state_at s frame) slot line.node ≡ Some a

module _ (s : ScenarioParts) where
  abbrev of_round : ℕ → ℕ → List Delivery
  of_round rank f = round_deliveries s rank f (state_at s f)

  pub in_bus : (rank f j v : ℕ) (p : Plan) → IsRound s rank f p → j ≤ last_slot p → Contains (ids s.nodes) v → (a : Delivery)
      → delivery_in_slot s rank f p (state_at s f) j v ≡ Some a → Contains (bus_deliveries s) a
  in_bus rank f j v p round within named a is =
      let in_slot : Contains (slot_deliveries s rank f p (state_at s f) j) a =
      in_filter (delivery_in_slot s rank f p (state_at s f) j) (ids s.nodes) v a named is in
      let in_plan : Contains (flat_map (slot_deliveries s rank f p (state_at s f)) (slots_of p)) a =
      in_flat (slot_deliveries s rank f p (state_at s f)) (slots_of p) j a (in_range 0 (last_slot p + 1) j (omega arith) (omega (arith, within))) in_slot in
      let in_round : Contains (of_round rank f) a =
      subst (λ (o : Option Plan). Contains (option_map_or (λ q. flat_map (slot_deliveries s rank f q (state_at s f)) (slots_of q)) o []) a)
      (sym round.plan) in_plan in
      let in_frame : Contains (flat_map (λ rank. of_round rank f) (ranks_of s)) a =
      in_flat (λ (r : ℕ). of_round r f) (ranks_of s) rank a
      (in_range 0 (length s.hosts) rank (omega arith) (let k = round.hosted in omega (arith, k))) in_round in
      in_flat (λ (g : ℕ). flat_map (λ rank. of_round rank g) (ranks_of s)) (frames_of s) f a
      (in_range 0 s.frames f (omega arith) (let k = round.in_run in omega (arith, k))) in_frame

  from_plan : (rank f : ℕ) (in_run : f < s.frames) (hosted : rank < length s.hosts) (a : Delivery) (o : Option Plan) → round_plan s rank f (state_at s f) ≡ o
      → Contains (option_map_or (λ q. flat_map (slot_deliveries s rank f q (state_at s f)) (slots_of q)) o []) a → IsMadeOnBus s a
  from_plan rank f in_run hosted a None is within = absurd (not_in_none a within)
  from_plan rank f in_run hosted a (Some p) is within =
      let slot = from_flat (slot_deliveries s rank f p (state_at s f)) (slots_of p) a within in
      let node = filter_from (delivery_in_slot s rank f p (state_at s f) slot.0) (ids s.nodes) a slot.2 in
      let below = (from_range 0 (last_slot p + 1) slot.0 slot.1).1 in
      let line = map_from (λ (m : NodeLine). m.node) s.nodes node.0 node.1 in
      record {
        frame = f;
        rank = rank;
        plan = p;
        round = record { in_run = in_run; hosted = hosted; plan = is };
        slot = slot.0;
        within = omega (arith, below);
        line = line.0;
        named = line.1;
        delivered = ap (delivery_in_slot s rank f p (state_at s f) slot.0) line.2 ∙ node.2;
      }

  pub from_bus : (a : Delivery) → Contains (bus_deliveries s) a → IsMadeOnBus s a
  from_bus a within =
      let frame = from_flat (λ (g : ℕ). flat_map (λ rank. of_round rank g) (ranks_of s)) (frames_of s) a within in
      let rank = from_flat (λ (r : ℕ). of_round r frame.0) (ranks_of s) a frame.2 in
      let below = (from_range 0 s.frames frame.0 frame.1).1 in
      let hosted = (from_range 0 (length s.hosts) rank.0 rank.1).1 in
      from_plan rank.0 frame.0 (omega (arith, below)) (omega (arith, hosted)) a (round_plan s rank.0 frame.0 (state_at s frame.0)) refl rank.2

  pub line_known : (n : NodeLine) → Contains s.nodes n → knows s.nodes n.node ≡ true
  line_known n named = any_of (λ (m : NodeLine). m.node == n.node) s.nodes n named (eq-eqb n.node n.node refl)

  same_plan : (p q : Plan) → ◌≡◌ {A = Option Plan} (Some p) (Some q) → p ≡ q
  same_plan p q is = cc

  -- it is made where it says, by the plan of that round
  module _ (a : Delivery) (made : IsMadeOnBus s a) where
    parts : (d : Data) × (delivery_of made.line.node made.frame made.rank made.slot d ≡ a)
    parts =
        let found = mapped (delivery_of made.line.node made.frame made.rank made.slot) _ a made.delivered in
        (found.0, found.2)

    pub made_at : made.line.node ≡ a.node
    made_at = ap (λ (d : Delivery). d.node) parts.1

    pub made_so : (rank f j : ℕ) (p : Plan) → IsRound s rank f p → a.frame ≡ f → a.rank ≡ rank → a.slot ≡ j
        → delivery_in_slot s rank f p (state_at s f) j a.node ≡ Some a
    made_so rank f j p round frame channel slot =
        let g : made.frame ≡ f = ap (λ (d : Delivery). d.frame) parts.1 ∙ frame in
        let r : made.rank ≡ rank = ap (λ (d : Delivery). d.rank) parts.1 ∙ channel in
        let i : made.slot ≡ j = ap (λ (d : Delivery). d.slot) parts.1 ∙ slot in
        let q : made.plan ≡ p = same_plan made.plan p (
        sym made.round.plan ∙ ap (λ (k : ℕ). round_plan s k made.frame (state_at s made.frame)) r
        ∙ ap (λ (k : ℕ). round_plan s rank k (state_at s k)) g ∙ round.plan) in
        sym (
        ap (λ (k : ℕ). delivery_in_slot s k made.frame made.plan (state_at s made.frame) made.slot made.line.node) r
        ∙ ap (λ (k : ℕ). delivery_in_slot s rank k made.plan (state_at s k) made.slot made.line.node) g
        ∙ ap (λ (k : Plan). delivery_in_slot s rank f k (state_at s f) made.slot made.line.node) q
        ∙ ap (λ (k : ℕ). delivery_in_slot s rank f p (state_at s f) k made.line.node) i
        ∙ ap (delivery_in_slot s rank f p (state_at s f) j) made_at)
        ∙ made.delivered
