-- A sum over what a node did, each in a slot of a round of its rank, is a sum over its rounds on the bus, slot by slot.
use Rattle.std.proofs.Common.{◌≡◌, ℕ, ◌+◌, ◌<◌, ◌≤◌, ◌==◌, List, inl, inr, Some, None, Option, Contains, sum_by, refl, sym, ◌∙◌, subst, arith}
use Rattle.std.specs.Prelude.{◌⊎◌}
use Rattle.std.specs.Option.{option_map_or}
use Rattle.std.proofs.lemmas.Bool.{cases_eq, cond-false, ne_eqb}
use Rattle.lwb_base.specs.Messages.{Plan}
use Rattle.scenario_text.specs.ScenarioParts.{ScenarioParts}
use Rattle.bus_rules.specs.Plans.{last_slot}
use Rattle.bus_terms.specs.Bus.{state_at, frames_of, over_frames}
use Rattle.bus_terms.specs.Costs.{over_round}
use Rattle.bus_terms.specs.Rounds.{Slot, rank_in, round_plan, slot_at, slots_of}
use Rattle.law_bus.proofs.KeyedSums.{by_key, no_sum, same_sums, under, under_none}
use Rattle.lwb_base.proofs.NumbersOfRanges.{from_range}

not_both : (p : Plan) → ◌≡◌ {A = Option Plan} None (Some p) → ⊥
not_both p is = cc

one_plan : (p q : Plan) → ◌≡◌ {A = Option Plan} (Some p) (Some q) → p ≡ q
one_plan p q is = cc

module _ (s : ScenarioParts) (v : ℕ) where
  -- the rank of v in frame f, and the plan of the round of that rank
  abbrev pub rank_at : ℕ → ℕ
  rank_at f = rank_in (state_at s f v)

  abbrev pub plan_at : ℕ → Option Plan
  plan_at f = round_plan s (rank_at f) f (state_at s f)

  -- slot j of it
  abbrev pub slot_of_own_rank : ℕ → Plan → ℕ → Slot
  slot_of_own_rank f p j = slot_at s (rank_at f) f p (state_at s f) j

  -- there is such a round, and it has a slot j
  pub record IsPlaced (f j : ℕ) : Type 0 where
    pub in_run : f < s.frames
    pub plan : Plan
    pub is : plan_at f ≡ Some plan
    pub within : j ≤ last_slot plan

  module _ {X : Type 0} (frame slot count : X → ℕ) (xs : List X) (cost : Slot → ℕ)
      (placed : (x : X) → Contains xs x → IsPlaced (frame x) (slot x))
      (same : (f j : ℕ) (p : Plan) → f < s.frames → plan_at f ≡ Some p → j ≤ last_slot p
      → sum_by (under slot (under frame count f) j) xs ≡ cost (slot_of_own_rank f p j)) where
    module _ (f : ℕ) (in_run : f < s.frames) where
      placed_here : (x : X) → Contains xs x → frame x ≡ f → IsPlaced f (slot x)
      placed_here x there is = subst (λ (g : ℕ). IsPlaced g (slot x)) is (placed x there)

      within : (p : Plan) → plan_at f ≡ Some p → (x : X) → Contains xs x → (slot x < last_slot p + 1) ⊎ (under frame count f x ≡ 0)
      within p is x there =
          elim (cases_eq (frame x) f) [
            | inr other ↦ inr (cond-false (frame x == f) (count x) 0 (ne_eqb (frame x) f other))
            | inl here ↦
                (let at = placed_here x there here in
                let less : slot x ≤ last_slot p = subst (λ (q : Plan). slot x ≤ last_slot q) (one_plan at.plan p (sym at.is ∙ is)) at.within in
                inl (omega (arith, less)))
          ]

      by_plan : (o : Option Plan) → plan_at f ≡ o
          → sum_by (under frame count f) xs ≡ option_map_or (λ p. sum_by (λ j. cost (slot_of_own_rank f p j)) (slots_of p)) o 0
      by_plan None is =
          no_sum (under frame count f) xs (λ x there. under_none frame count f x (λ here.
          let at = placed_here x there here in
          absurd (not_both at.plan (sym is ∙ at.is))))
      by_plan (Some p) is =
          by_key slot (under frame count f) (last_slot p + 1) xs (within p is)
          ∙ same_sums (λ (j : ℕ). sum_by (under slot (under frame count f) j) xs) (λ (j : ℕ). cost (slot_of_own_rank f p j)) (slots_of p)
          (λ j there. let range = from_range 0 (last_slot p + 1) j there in same f j p in_run is (omega (arith, range)))

      of_frame : sum_by (under frame count f) xs ≡ over_round cost s (rank_at f) f (state_at s f)
      of_frame = by_plan (plan_at f) refl

    pub over_rounds : sum_by count xs ≡ over_frames cost s v
    over_rounds =
        by_key frame count s.frames xs (λ x there. inl (placed x there).in_run)
        ∙ same_sums (λ (f : ℕ). sum_by (under frame count f) xs) (λ (f : ℕ). over_round cost s (rank_at f) f (state_at s f)) (frames_of s)
        (λ f there. let range = from_range 0 s.frames f there in of_frame f (omega (arith, range)))
