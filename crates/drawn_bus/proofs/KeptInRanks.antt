-- Of which rank's round it is that a loss is kept: a node takes part in those of its own rank alone.
use Rattle.std.proofs.Common.{◌≡◌, ℕ, zero, suc, ◌+◌, ◌<◌, ◌≤◌, ◌&&◌, ◌||◌, ◌==◌, Bool, true, false, not, nat_le, Option, Some, None, is_some}
use Rattle.std.proofs.Common.{inl, inr, refl, sym, ◌∙◌, ap, arith, subst, length}
use Rattle.std.specs.Prelude.{nat_eq}
use Rattle.std.specs.List.{list_any, range_with_len}
use Rattle.std.specs.Option.{option_eq, option_map_or}
use Rattle.std.proofs.lemmas.Bool.{cases_Bool, cases_eq, eqb-true, le-leb}
use Rattle.lwb_base.specs.Messages.{Plan}
use Rattle.lwb_base.proofs.Truths.{and_false}
use Rattle.link_trace.specs.declared.lines.LoseLine.{LoseLine}
use Rattle.link_trace.specs.Passes.{Lines}
use Rattle.scenario_text.specs.ScenarioParts.{ScenarioParts}
use Rattle.bus_rules.specs.Plans.{last_slot}
use Rattle.bus_rules.specs.States.{State}
use Rattle.bus_terms.specs.Bus.{ranks_of, state_at}
use Rattle.bus_terms.specs.Flooding.{Setting, has, hears, moment}
use Rattle.bus_terms.specs.Rounds.{before_slot, rank_in, round_plan, slot_at}
use Rattle.bus_terms.proofs.KeptRanks.{elsewhere}
use Rattle.bus_terms.proofs.OtherRanks.{IsElsewhere, slots_elsewhere, takes_no_part}
use Rattle.drawn_bus.specs.FloodLosses.{line_at}
use Rattle.drawn_bus.specs.KeptLosses.{changes_reception, flood_in_round, flood_over, receives_otherwise}
use Rattle.drawn_bus.proofs.FloodsAlike.{hears_nothing}

-- a test of numbers that only this one passes
module _ (test : ℕ → Bool) (r : ℕ) (alone : (i : ℕ) → (i ≡ r → ⊥) → test i ≡ false) where
  none_after : (n b : ℕ) → r < b → list_any test (range_with_len b n) ≡ false
  none_after zero b after = refl
  none_after (suc n) b after =
      ap (λ (t : Bool). t || list_any test (range_with_len (b + 1) n)) (alone b (λ same. omega (arith, same, after)))
      ∙ none_after n (b + 1) (omega (arith, after))

  only_there : (n b : ℕ) → b ≤ r → r < b + n → list_any test (range_with_len b n) ≡ test r
  only_there zero b from below = absurd (omega (arith, from, below))
  only_there (suc n) b from below =
      elim (cases_eq b r) [
        | inl same ↦
            ap (λ (t : Bool). test b || t) (none_after n (b + 1) (omega (arith, same))) ∙ or_false (test b) ∙ ap test same
        | inr other ↦
            ap (λ (t : Bool). t || list_any test (range_with_len (b + 1) n)) (alone b other)
            ∙ only_there n (b + 1) (omega (arith, from, other)) (omega (arith, below))
      ]
    where
      or_false : (t : Bool) → (t || false) ≡ t
      or_false true = refl
      or_false false = refl

-- who takes part in a slot of a round is of its rank
pub of_rank : (s : ScenarioParts) (rank f : ℕ) (p : Plan) (states : ℕ → State) (j v : ℕ) → has (slot_at s rank f p states j).flood.everyone v ≡ true
    → rank_in (states v) ≡ rank
of_rank s rank f p states j v there =
    elim (cases_Bool (rank_in (states v) == rank)) [
      | inl same ↦ eqb-true (rank_in (states v)) rank same
      | inr other ↦ absurd (out (elsewhere s rank f (states v) other))
    ]
  where
    out : IsElsewhere rank (states v) → ⊥
    out is =
        takes_no_part s rank f p j v (before_slot s rank f p states j)
        (subst (IsElsewhere rank) (sym (slots_elsewhere s rank f p v states is j)) is) there

-- losses change nothing for who takes no part
pub nothing_outside : (t : Lines) (f j : ℕ) (x : Setting) (k v : ℕ) → has x.everyone v ≡ false → receives_otherwise x (flood_over t f j x) k v ≡ false
nothing_outside t f j x k v outside =
    let y : Setting = flood_over t f j x in
    ap (λ (o : Option ℕ). not (option_eq nat_eq o (hears y (moment x k) k v))) (hears_nothing x (moment x k) k v outside)
    ∙ ap (λ (o : Option ℕ). not (option_eq nat_eq None o)) (hears_nothing y (moment x k) k v outside)

module _ (s d : ScenarioParts) (f j k u v : ℕ) where
  abbrev line : LoseLine
  line = line_at f j k u v

  -- the change at v in a round of this plan
  abbrev pub changes_in : ℕ → Plan → Bool
  changes_in rank p =
      let x = flood_in_round d rank f p j in
      nat_le j (last_slot p) && is_some ((moment x k).sends u) && receives_otherwise x (flood_over s.trace f j x) k v

  -- no change at v in a round in which it takes no part
  deaf : (rank : ℕ) (p : Plan) → has (flood_in_round d rank f p j).everyone v ≡ false → changes_in rank p ≡ false
  deaf rank p outside =
      let x = flood_in_round d rank f p j in
      ap (λ (b : Bool). nat_le j (last_slot p) && is_some ((moment x k).sends u) && b) (nothing_outside s.trace f j x k v outside)
      ∙ and_false (nat_le j (last_slot p) && is_some ((moment x k).sends u))

  changes_only : (rank : ℕ) → rank_in (state_at d f v) ≡ rank → (i : ℕ) → (i ≡ rank → ⊥) → changes_reception s d line i ≡ false
  changes_only rank own i other = by_plan (round_plan d i f (state_at d f))
    where
      outside : (p : Plan) (b : Bool) → has (flood_in_round d i f p j).everyone v ≡ b → has (flood_in_round d i f p j).everyone v ≡ false
      outside p true is = absurd (other (sym (of_rank d i f p (state_at d f) j v is) ∙ own))
      outside p false is = is

      by_plan : (o : Option Plan) → option_map_or (changes_in i) o false ≡ false
      by_plan None = refl
      by_plan (Some p) = deaf i p (outside p (has (flood_in_round d i f p j).everyone v) refl)

  -- so who takes part in the round of this rank keeps its losses by what it receives there
  pub kept_by_rank : (rank : ℕ) (p : Plan) → rank < length s.hosts → round_plan d rank f (state_at d f) ≡ Some p → j ≤ last_slot p
      → has (flood_in_round d rank f p j).everyone v ≡ true
      → list_any (changes_reception s d line) (ranks_of s)
      ≡ (is_some ((moment (flood_in_round d rank f p j) k).sends u)
      && receives_otherwise (flood_in_round d rank f p j) (flood_over s.trace f j (flood_in_round d rank f p j)) k v)
  kept_by_rank rank p below is within there =
      let x = flood_in_round d rank f p j in
      only_there (changes_reception s d line) rank (changes_only rank (of_rank d rank f p (state_at d f) j v there)) (length s.hosts) 0
      (omega arith) (omega (arith, below))
      ∙ ap (λ (o : Option Plan). option_map_or (changes_in rank) o false) is
      ∙ ap (λ (b : Bool). b && is_some ((moment x k).sends u) && receives_otherwise x (flood_over s.trace f j x) k v) (le-leb j (last_slot p) within)
