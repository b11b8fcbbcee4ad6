-- A round depends on the states of the nodes of its rank alone.
use Rattle.std.proofs.Common.{◌≡◌, ℕ, zero, suc, ◌+◌, ◌==◌, List, [], ◌∷◌, Bool, true, false, if◌then◌else◌, Option, Some, None, is_some}
use Rattle.std.proofs.Common.{◌++◌, find, filter_map, flat_map, option_map, option_and_then, inl, inr, refl, sym, ◌∙◌, ap, subst}
use Rattle.std.specs.Prelude.{◌⊎◌}
use Rattle.std.specs.List.{cons_option}
use Rattle.std.specs.Option.{option_map_or, option_or}
use Rattle.std.proofs.lemmas.Bool.{cases_Bool, false≢true}
use Rattle.std.proofs.lemmas.List.Elements.{filter_agree}
use Rattle.lwb_base.specs.Messages.{Plan}
use Rattle.link_trace.specs.Passes.{passes, captured}
use Rattle.scenario_text.specs.ScenarioParts.{ScenarioParts}
use Rattle.bus_rules.specs.declared.delivery.Delivery.{Delivery}
use Rattle.bus_rules.specs.declared.part.Part.{Part}
use Rattle.bus_rules.specs.Cores.{Core}
use Rattle.bus_rules.specs.Plans.{last_slot}
use Rattle.bus_rules.specs.Slots.{Closed, Message, Opened, delivery_of, part_of}
use Rattle.bus_rules.specs.States.{State, StateOff, StateOn}
use Rattle.bus_rules.specs.Tuning.{rank_of, hosts_in, holds_in}
use Rattle.bus_rules.proofs.Ranks.{hosts_rank, holds_rank}
use Rattle.bus_terms.specs.FloodOfText.{ids}
use Rattle.bus_terms.specs.Flooding.{Setting, accepted}
use Rattle.bus_terms.specs.Rounds.{Slot, accepted_at, after_round, after_slot, before_slot, closed_at, closed_slot_of, delivery_in_slot, first_node, left_by}
use Rattle.bus_terms.specs.Rounds.{opened_at, plan_in, round_of_rank, round_deliveries, round_plan, message_said, slot_deliveries, slot_of_round, slots_of}
use Rattle.bus_terms.specs.Rounds.{takes_part}
use Rattle.bus_terms.specs.ScriptedStates.{is_on_and}
use Rattle.bus_terms.proofs.OtherRanks.{IsElsewhere, closes_nothing, no_part, no_window, slot_elsewhere}

pub found_passes : (p : ℕ → Bool) (xs : List ℕ) (x : ℕ) → find p xs ≡ Some x → p x ≡ true
found_passes p [] x is = absurd (cc)
found_passes p (y ∷ xs) x is = elim (cases_Bool (p y)) [
  | inl passes ↦ (let same : y ≡ x = one y x (sym (ap (λ (b : Bool). if b then Some y else find p xs) passes) ∙ is) in ap p (sym same) ∙ passes)
  | inr fails ↦ found_passes p xs x (sym (ap (λ (b : Bool). if b then Some y else find p xs) fails) ∙ is)
]
  where
    one : (y x : ℕ) → Some y ≡ Some x → y ≡ x
    one y x is = cc

find_agree : (p q : ℕ → Bool) → ((v : ℕ) → p v ≡ q v) → (xs : List ℕ) → find p xs ≡ find q xs
find_agree p q same [] = refl
find_agree p q same (x ∷ xs) =
    ap (λ (b : Bool). if b then Some x else find p xs) (same x) ∙ ap (λ (o : Option ℕ). if q x then Some x else o) (find_agree p q same xs)

-- the setting of a flood, by who initiates and who takes part
abbrev flood_with : ScenarioParts → ℕ → ℕ → List ℕ → List ℕ → Setting
flood_with s f j initiators everyone = record {
  limit = s.sends;
  passes = λ k u v. passes s.trace f j k u v;
  captured = λ k v. captured s.trace f j k v;
  initiators = initiators;
  everyone = everyone;
}

module _ (s : ScenarioParts) (rank f : ℕ) where
  -- the same, or both elsewhere
  abbrev pub IsAlike : State → State → Type 0
  IsAlike x y = (x ≡ y) ⊎ (IsElsewhere rank x × IsElsewhere rank y)

  same_window : (part : Part) (v : ℕ) (x y : State) → IsAlike x y → opened_at s rank f part v x ≡ opened_at s rank f part v y
  same_window part v x y (inl is) = ap (opened_at s rank f part v) is
  same_window part v x y (inr out) = no_window s rank f part v x out.0 ∙ sym (no_window s rank f part v y out.1)

  takes_none : (part : Part) (x : State) → IsElsewhere rank x → takes_part rank part x None ≡ false
  takes_none part x out = elim (cases_Bool (takes_part rank part x None)) [ inl takes ↦ absurd (no_part rank part x out takes) | inr not ↦ not ]

  same_part : (part : Part) (x y : State) (w : Option Opened) → IsAlike x y → takes_part rank part x w ≡ takes_part rank part y w
  same_part part x y w (inl is) = ap (λ (z : State). takes_part rank part z w) is
  same_part part x y None (inr out) = takes_none part x out.0 ∙ sym (takes_none part y out.1)
  same_part part x y (Some o) (inr out) = refl

  module _ (p : Plan) (j : ℕ) (a b : ℕ → State) (alike : (v : ℕ) → IsAlike (a v) (b v)) where
    abbrev part : Part
    part = part_of p j

    abbrev xa : Slot
    xa = slot_of_round s rank f p j a

    abbrev xb : Slot
    xb = slot_of_round s rank f p j b

    windows : (v : ℕ) → xa.window v ≡ xb.window v
    windows v = same_window part v (a v) (b v) (alike v)

    same_flood : xa.flood ≡ xb.flood
    same_flood =
        ap (λ (l : List ℕ). flood_with s f j l xa.flood.everyone)
        (filter_agree (λ v. is_some (message_said (xa.window v))) (λ v. is_some (message_said (xb.window v)))
        (λ v. ap (λ (w : Option Opened). is_some (message_said w)) (windows v)) (ids s.nodes))
        ∙ ap (flood_with s f j xb.flood.initiators)
        (filter_agree (λ v. takes_part rank part (a v) (xa.window v)) (λ v. takes_part rank part (b v) (xb.window v))
        (λ v. same_part part (a v) (b v) (xa.window v) (alike v) ∙ ap (takes_part rank part (b v)) (windows v)) (ids s.nodes))

    same_accepted : (v : ℕ) → accepted_at xa v ≡ accepted_at xb v
    same_accepted v =
        ap (λ (g : Setting). option_and_then (λ (c : ℕ × ℕ). message_said (xa.window c.0)) (accepted g v)) same_flood ∙ by_answer (accepted xb.flood v)
      where
        by_answer : (o : Option (ℕ × ℕ)) → option_and_then (λ (c : ℕ × ℕ). message_said (xa.window c.0)) o
            ≡ option_and_then (λ (c : ℕ × ℕ). message_said (xb.window c.0)) o
        by_answer None = refl
        by_answer (Some c) = ap message_said (windows c.0)

    same_closing : (v : ℕ) → a v ≡ b v → closed_at s f xa a v ≡ closed_at s f xb b v
    same_closing v is =
        ap (λ (y : State). closed_slot_of s f part v (opened_at s rank f part v y) (accepted_at xa v) y) is
        ∙ ap (λ (m : Option Message). closed_slot_of s f part v (xb.window v) m (b v)) (same_accepted v)

    alike_closing : (v : ℕ) → closed_at s f xa a v ≡ closed_at s f xb b v
    alike_closing v =
        elim (alike v) [
          | inl is ↦ same_closing v is
          | inr out ↦ closes_nothing s rank f p j v a out.0 ∙ sym (closes_nothing s rank f p j v b out.1)
        ]

    same_after : (v : ℕ) → a v ≡ b v → after_slot s rank f p j a v ≡ after_slot s rank f p j b v
    same_after v is = ap (λ (y : State). left_by y (closed_at s f xa a v)) is ∙ ap (left_by (b v)) (same_closing v is)

    alike_after : (v : ℕ) → IsAlike (after_slot s rank f p j a v) (after_slot s rank f p j b v)
    alike_after v =
        elim (alike v) [
          | inl is ↦ inl (same_after v is)
          | inr out ↦ inr (
            subst (IsElsewhere rank) (sym (slot_elsewhere s rank f p j v a out.0)) out.0,
            subst (IsElsewhere rank) (sym (slot_elsewhere s rank f p j v b out.1)) out.1,
          )
        ]

  module _ (a b : ℕ → State) (alike : (v : ℕ) → IsAlike (a v) (b v)) where
    alike_slots : (p : Plan) (j v : ℕ) → IsAlike (before_slot s rank f p a j v) (before_slot s rank f p b j v)
    unfolding before_slot
    alike_slots p zero v = alike v
    alike_slots p (suc j) v = alike_after p j (before_slot s rank f p a j) (before_slot s rank f p b j) (alike_slots p j) v

    same_slots : (p : Plan) (j v : ℕ) → a v ≡ b v → before_slot s rank f p a j v ≡ before_slot s rank f p b j v
    unfolding before_slot
    same_slots p zero v is = is
    same_slots p (suc j) v is = same_after p j (before_slot s rank f p a j) (before_slot s rank f p b j) (alike_slots p j) v (same_slots p j v is)

    -- a test that only cores of this rank pass
    module _ (test : Core → Bool) (ranked : (c : Core) → test c ≡ true → (rank_of c.tune == rank) ≡ true) where
      fails : (x : State) → IsElsewhere rank x → is_on_and test x ≡ false
      fails (StateOff boots) out = refl
      fails (StateOn c) out = elim (cases_Bool (test c)) [ inl passes ↦ absurd (false≢true (sym out ∙ ranked c passes)) | inr not ↦ not ]

      same_test : (v : ℕ) → is_on_and test (a v) ≡ is_on_and test (b v)
      same_test v = elim (alike v) [ inl is ↦ ap (is_on_and test) is | inr out ↦ fails (a v) out.0 ∙ sym (fails (b v) out.1) ]

      same_first : first_node s (is_on_and test) a ≡ first_node s (is_on_and test) b
      same_first = find_agree (λ v. is_on_and test (a v)) (λ v. is_on_and test (b v)) same_test (ids s.nodes)

      -- who passes has the same state in both
      same_found : (v : ℕ) → first_node s (is_on_and test) b ≡ Some v → a v ≡ b v
      same_found v first =
          elim (alike v) [
            | inl is ↦ is
            | inr out ↦ absurd (false≢true (sym (fails (b v) out.1) ∙ found_passes (λ u. is_on_and test (b u)) (ids s.nodes) v first))
          ]

    abbrev hosting : Core → Bool
    hosting c = hosts_in rank f c.tune

    abbrev holding : Core → Bool
    holding c = holds_in rank f c.tune

    same_plan : round_plan s rank f a ≡ round_plan s rank f b
    same_plan =
        ap (λ (o : Option ℕ). option_and_then (λ v. plan_in (a v)) (option_or o (first_node s (is_on_and holding) a)))
        (same_first hosting (λ c is. hosts_rank rank f c.tune is))
        ∙ ap (λ (o : Option ℕ). option_and_then (λ v. plan_in (a v)) (option_or (first_node s (is_on_and hosting) b) o))
        (same_first holding (λ c is. holds_rank rank f c.tune is))
        ∙ by_leader (first_node s (is_on_and hosting) b) (first_node s (is_on_and holding) b) refl refl
      where
        by_leader : (h o : Option ℕ) → first_node s (is_on_and hosting) b ≡ h → first_node s (is_on_and holding) b ≡ o
            → option_and_then (λ v. plan_in (a v)) (option_or h o) ≡ option_and_then (λ v. plan_in (b v)) (option_or h o)
        by_leader (Some v) o first second = ap plan_in (same_found hosting (λ c is. hosts_rank rank f c.tune is) v first)
        by_leader None (Some v) first second = ap plan_in (same_found holding (λ c is. holds_rank rank f c.tune is) v second)
        by_leader None None first second = refl

    pub same_round : (v : ℕ) → a v ≡ b v → round_of_rank s rank f a v ≡ round_of_rank s rank f b v
    same_round v is = ap (λ (o : Option Plan). after_round s rank f a o v) same_plan ∙ by_plan (round_plan s rank f b)
      where
        by_plan : (o : Option Plan) → after_round s rank f a o v ≡ after_round s rank f b o v
        by_plan None = is
        by_plan (Some p) = same_slots p (last_slot p + 1) v is

    -- and what is delivered in it
    same_delivery : (p : Plan) (j v : ℕ) → delivery_in_slot s rank f p a j v ≡ delivery_in_slot s rank f p b j v
    same_delivery p j v =
        ap (λ (c : Option Closed). option_map (delivery_of v f rank j) (option_and_then (λ d. d.delivered) c))
        (alike_closing p j (before_slot s rank f p a j) (before_slot s rank f p b j) (alike_slots p j) v)

    same_slot : (p : Plan) (j : ℕ) (xs : List ℕ) → filter_map (delivery_in_slot s rank f p a j) xs ≡ filter_map (delivery_in_slot s rank f p b j) xs
    same_slot p j [] = refl
    same_slot p j (v ∷ xs) =
        ap (λ (o : Option Delivery). cons_option o (filter_map (delivery_in_slot s rank f p a j) xs)) (same_delivery p j v)
        ∙ ap (cons_option (delivery_in_slot s rank f p b j v)) (same_slot p j xs)

    same_lists : (p : Plan) (js : List ℕ) → flat_map (slot_deliveries s rank f p a) js ≡ flat_map (slot_deliveries s rank f p b) js
    same_lists p [] = refl
    same_lists p (j ∷ js) =
        ap (λ (l : List Delivery). l ++ flat_map (slot_deliveries s rank f p a) js) (same_slot p j (ids s.nodes))
        ∙ ap (λ (l : List Delivery). slot_deliveries s rank f p b j ++ l) (same_lists p js)

    pub same_deliveries : round_deliveries s rank f a ≡ round_deliveries s rank f b
    same_deliveries =
        ap (λ (o : Option Plan). option_map_or (λ p. flat_map (slot_deliveries s rank f p a) (slots_of p)) o []) same_plan
        ∙ by_plan (round_plan s rank f b)
      where
        by_plan : (o : Option Plan) → option_map_or (λ p. flat_map (slot_deliveries s rank f p a) (slots_of p)) o []
            ≡ option_map_or (λ p. flat_map (slot_deliveries s rank f p b) (slots_of p)) o []
        by_plan None = refl
        by_plan (Some p) = same_lists p (slots_of p)
