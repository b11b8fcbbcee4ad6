-- Where the floods of its slots go the same over the lines of two traces, a round does.
use Rattle.std.proofs.Common.{◌≡◌, ℕ, zero, suc, ◌+◌, ◌<◌, ◌≤◌, List, [], ◌++◌, Option, Some, None, if◌then◌else◌, is_some, filter_map, flat_map}
use Rattle.std.proofs.Common.{option_map, option_and_then, sum_by, refl, ◌∙◌, ap, arith}
use Rattle.std.proofs.Math.Path.{fun_ext}
use Rattle.std.proofs.lemmas.List.Sums.{sum_by-cons}
use Rattle.std.specs.List.{range_with_len}
use Rattle.std.specs.Option.{option_map_or}
use Rattle.lwb_base.specs.Messages.{Plan}
use Rattle.lwb_base.specs.Profile.{airtime}
use Rattle.link_trace.specs.Passes.{Lines}
use Rattle.scenario_text.specs.ScenarioParts.{ScenarioParts}
use Rattle.bus_rules.specs.declared.delivery.Delivery.{Delivery}
use Rattle.bus_rules.specs.Charges.{charge, last_if_all_sent}
use Rattle.bus_rules.specs.Plans.{last_slot}
use Rattle.bus_rules.specs.Slots.{Closed, Message, delivery_of, part_of}
use Rattle.bus_rules.specs.States.{State}
use Rattle.bus_terms.specs.Costs.{length_at, over_round, slot_sent, slot_window}
use Rattle.bus_terms.specs.Flooding.{Moment, has, moment, steps, STEPS}
use Rattle.bus_terms.specs.FloodOfText.{ids}
use Rattle.scenario_text.specs.OverLines.{over}
use Rattle.bus_terms.specs.Rounds.{Slot, accepted_at, after_round, after_slot, before_slot, closed_at, closed_slot_of, delivery_in_slot, left_by}
use Rattle.bus_terms.specs.Rounds.{message_said, round_deliveries, round_of_rank, round_plan, slot_at, slot_deliveries, slot_of_round, slots_of}

-- lists and sums over a range
pub joined_alike : {Y : Type 0} (g h : ℕ → List Y) (n b : ℕ) → ((i : ℕ) → i < b + n → g i ≡ h i)
    → flat_map g (range_with_len b n) ≡ flat_map h (range_with_len b n)
joined_alike g h zero b same = refl
joined_alike g h (suc n) b same =
    ap (λ (l : List _). l ++ flat_map g (range_with_len (b + 1) n)) (same b (omega arith))
    ∙ ap (λ (l : List _). h b ++ l) (joined_alike g h n (b + 1) (λ i below. same i (omega (arith, below))))

pub summed_alike : (g h : ℕ → ℕ) (n b : ℕ) → ((i : ℕ) → i < b + n → g i ≡ h i) → sum_by g (range_with_len b n) ≡ sum_by h (range_with_len b n)
summed_alike g h zero b same = refl
summed_alike g h (suc n) b same =
    omega (
      arith,
      sum_by-cons g b (range_with_len (b + 1) n),
      sum_by-cons h b (range_with_len (b + 1) n),
      same b (omega arith),
      summed_alike g h n (b + 1) (λ i below. same i (omega (arith, below))),
    )

module _ (s : ScenarioParts) (a b : Lines) where
  -- the flood of slot j of this round is at the beginning of each step the same, where the nodes are in these states before it
  abbrev pub IsSameFlood : ℕ → ℕ → Plan → ℕ → (ℕ → State) → Type 0
  IsSameFlood rank f p j states =
      (k : ℕ) → moment (slot_of_round (over s a) rank f p j states).flood k ≡ moment (slot_of_round (over s b) rank f p j states).flood k

  -- a slot
  module _ (rank f : ℕ) (p : Plan) (j : ℕ) (states : ℕ → State) (same : IsSameFlood rank f p j states) where
    abbrev xa : Slot
    xa = slot_of_round (over s a) rank f p j states

    abbrev xb : Slot
    xb = slot_of_round (over s b) rank f p j states

    same_accepted : (v : ℕ) → accepted_at xa v ≡ accepted_at xb v
    same_accepted v =
        ap (λ (m : Moment). option_and_then (λ (c : ℕ × ℕ). message_said (xa.window c.0)) (if has xa.flood.initiators v then None else m.heard v))
        (same STEPS)

    same_closing : (v : ℕ) → closed_at (over s a) f xa states v ≡ closed_at (over s b) f xb states v
    same_closing v = ap (λ (m : Option Message). closed_slot_of s f (part_of p j) v (xa.window v) m (states v)) (same_accepted v)

    same_after : after_slot (over s a) rank f p j states ≡ after_slot (over s b) rank f p j states
    same_after = fun_ext (λ v. ap (left_by (states v)) (same_closing v))

    abbrev sent_in : (ℕ → Moment) → ℕ → List (ℕ × ℕ)
    sent_in m v = filter_map (λ k. option_map (λ origin. (k, length_at xa origin)) ((m k).sends v)) steps

    pub same_sent : (v : ℕ) → slot_sent s.profile xa v ≡ slot_sent s.profile xb v
    same_sent v = ap (λ (m : ℕ → Moment). sum_by (λ (x : ℕ × ℕ). airtime s.profile x.1) (sent_in m v)) (fun_ext same)

    pub same_window : (v : ℕ) → slot_window s.profile xa v ≡ slot_window s.profile xb v
    same_window v =
        ap (λ (m : ℕ → Moment). if is_some (xa.window v) then charge s.profile (last_if_all_sent s.sends (sent_in m v)) else 0) (fun_ext same)

  -- a cost that is the same where the floods are
  abbrev pub IsSameCost : (Slot → ℕ) → Type 0
  IsSameCost cost =
      (rank f : ℕ) (p : Plan) (j : ℕ) (states : ℕ → State) → IsSameFlood rank f p j states
      → cost (slot_of_round (over s a) rank f p j states) ≡ cost (slot_of_round (over s b) rank f p j states)

  -- all slots of a round are so
  abbrev pub IsSameRound : ℕ → ℕ → (ℕ → State) → Type 0
  IsSameRound rank f states =
      (p : Plan) → round_plan s rank f states ≡ Some p → (j : ℕ) → j ≤ last_slot p
      → IsSameFlood rank f p j (before_slot (over s b) rank f p states j)

  module _ (rank f : ℕ) (states : ℕ → State) (same : IsSameRound rank f states) where
    -- by its plan
    module _ (p : Plan) (is : round_plan s rank f states ≡ Some p) where
      abbrev before : ℕ → ℕ → State
      before j = before_slot (over s b) rank f p states j

      same_before : (j : ℕ) → j ≤ last_slot p + 1 → before_slot (over s a) rank f p states j ≡ before j
      unfolding before_slot
      same_before zero within = refl
      same_before (suc j) within =
          ap (after_slot (over s a) rank f p j) (same_before j (omega (arith, within)))
          ∙ same_after rank f p j (before j) (same p is j (omega (arith, within)))

      same_delivery : (j : ℕ) → j ≤ last_slot p → (v : ℕ) → delivery_in_slot (over s a) rank f p states j v ≡ delivery_in_slot (over s b) rank f p states j v
      same_delivery j within v =
          ap (λ (c : Option Closed). option_map (delivery_of v f rank j) (option_and_then (λ d. d.delivered) c))
          (ap (λ (g : ℕ → State). closed_at (over s a) f (slot_of_round (over s a) rank f p j g) g v) (same_before j (omega (arith, within)))
          ∙ same_closing rank f p j (before j) (same p is j within) v)

      same_deliveries : (j : ℕ) → j < 0 + (last_slot p + 1) → slot_deliveries (over s a) rank f p states j ≡ slot_deliveries (over s b) rank f p states j
      same_deliveries j below = ap (λ (d : ℕ → Option Delivery). filter_map d (ids s.nodes)) (fun_ext (same_delivery j (omega (arith, below))))

      same_cost : (cost : Slot → ℕ) → IsSameCost cost → (j : ℕ) → j < 0 + (last_slot p + 1)
          → cost (slot_at (over s a) rank f p states j) ≡ cost (slot_at (over s b) rank f p states j)
      same_cost cost so j below =
          ap (λ (g : ℕ → State). cost (slot_of_round (over s a) rank f p j g)) (same_before j (omega (arith, below)))
          ∙ so rank f p j (before j) (same p is j (omega (arith, below)))

    pub same_round : (v : ℕ) → round_of_rank (over s a) rank f states v ≡ round_of_rank (over s b) rank f states v
    same_round v = by_plan (round_plan s rank f states) refl
      where
        by_plan : (o : Option Plan) → round_plan s rank f states ≡ o
            → after_round (over s a) rank f states o v ≡ after_round (over s b) rank f states o v
        by_plan None is = refl
        by_plan (Some p) is = ap (λ (g : ℕ → State). g v) (same_before p is (last_slot p + 1) (omega arith))

    pub delivered_in_round : round_deliveries (over s a) rank f states ≡ round_deliveries (over s b) rank f states
    delivered_in_round = by_plan (round_plan s rank f states) refl
      where
        by_plan : (o : Option Plan) → round_plan s rank f states ≡ o
            → option_map_or (λ p. flat_map (slot_deliveries (over s a) rank f p states) (slots_of p)) o []
            ≡ option_map_or (λ p. flat_map (slot_deliveries (over s b) rank f p states) (slots_of p)) o []
        by_plan None is = refl
        by_plan (Some p) is =
            joined_alike (slot_deliveries (over s a) rank f p states) (slot_deliveries (over s b) rank f p states) (last_slot p + 1) 0 (same_deliveries p is)

    pub cost_of_round : (cost : Slot → ℕ) → IsSameCost cost → over_round cost (over s a) rank f states ≡ over_round cost (over s b) rank f states
    cost_of_round cost so = by_plan (round_plan s rank f states) refl
      where
        by_plan : (o : Option Plan) → round_plan s rank f states ≡ o
            → option_map_or (λ p. sum_by (λ j. cost (slot_at (over s a) rank f p states j)) (slots_of p)) o 0
            ≡ option_map_or (λ p. sum_by (λ j. cost (slot_at (over s b) rank f p states j)) (slots_of p)) o 0
        by_plan None is = refl
        by_plan (Some p) is =
            summed_alike (λ j. cost (slot_at (over s a) rank f p states j)) (λ j. cost (slot_at (over s b) rank f p states j)) (last_slot p + 1) 0
            (same_cost p is cost so)
