-- The rounds of a frame come to the same in any order of the ranks.
use Rattle.std.proofs.Common.{◌≡◌, ℕ, zero, suc, ◌+◌, ◌<◌, ◌==◌, List, [], ◌∷◌, Bool, true, false, length, inl, inr, eqb, eq-eqb, IsPermutation}
use Rattle.std.proofs.Common.{refl, sym, ◌∙◌, ap, arith}
use Rattle.std.specs.List.{AllByRecursion, IsDistinct, range_with_len}
use Rattle.std.proofs.lemmas.Bool.{cases_Bool, cases_eq, eqb-true, ne_eqb, false≢true, true≢false, or_cases, or_left, or_right, or_from}
use Rattle.std.proofs.lemmas.List.Sorted.{list_any-IsPermutation}
use Rattle.std.proofs.lemmas.Map.Keys.{IsDistinct-IsPermutation, IsDistinct-head, IsDistinct-tail}
use Rattle.scenario_text.specs.ScenarioFacts.{IsSoundScenario}
use Rattle.scenario_text.specs.ScenarioParts.{ScenarioParts}
use Rattle.scenario_text.specs.FloodDrafts.{Climbs}
use Rattle.bus_rules.specs.States.{State}
use Rattle.bus_terms.specs.Bus.{ranks_of, state_at}
use Rattle.bus_terms.specs.Flooding.{has}
use Rattle.bus_terms.specs.RankOrders.{rounds_in_turn}
use Rattle.bus_terms.specs.Rounds.{rank_in, round_of_rank, round_deliveries, rounds}
use Rattle.bus_terms.proofs.KeptRanks.{elsewhere, hosted, round_rank}
use Rattle.bus_terms.proofs.ListsInTurn.{range_in_turn}
use Rattle.bus_terms.proofs.OtherRanks.{round_elsewhere}
use Rattle.bus_terms.proofs.SameRounds.{IsAlike, same_deliveries, same_round}

-- numbers that rise differ, and each below the end is there
rising_differ : (xs : List ℕ) → Climbs (λ j k. j < k) xs → IsDistinct eqb xs
unfolding IsDistinct
rising_differ [] rise = tt
rising_differ (x ∷ xs) rise = (apart xs rise.0, rising_differ xs rise.1)
  where
    apart : (ys : List ℕ) → AllByRecursion (λ k. x < k) ys → AllByRecursion (λ k. eqb x k ≡ false) ys
    apart [] above = tt
    apart (y ∷ ys) above = (ne_eqb x y (λ same. (let less = above.0 in omega (arith, less, same))), apart ys above.1)

in_range : (n b v : ℕ) → b < v + 1 → v < b + n → has (range_with_len b n) v ≡ true
in_range zero b v from below = absurd (omega arith)
in_range (suc n) b v from below =
    elim (cases_eq b v) [
      | inl same ↦ or_left (b == v) _ (eq-eqb b v same)
      | inr other ↦ or_right (b == v) _ (in_range n (b + 1) v (omega (arith, other)) (omega arith))
    ]

not_there : (n : ℕ) (ns : List ℕ) → AllByRecursion (λ y. eqb n y ≡ false) ns → has ns n ≡ false
not_there n [] apart = refl
not_there n (m ∷ ns) apart =
    or_from (m == n) (has ns n) (ne_eqb m n (λ same. true≢false (sym (eq-eqb n m (sym same)) ∙ apart.0))) (not_there n ns apart.1)

module _ (s : ScenarioParts) (f : ℕ) where
  other_rank : (g : ℕ → State) (n v : ℕ) → (rank_in (g v) == n) ≡ false → round_of_rank s n f g v ≡ g v
  other_rank g n v is = round_elsewhere s n f v g (elsewhere s n f (g v) is)

  -- a node of none of these ranks is left alone
  left_alone : (ranks : List ℕ) (g : ℕ → State) (v : ℕ) → has ranks (rank_in (g v)) ≡ false → rounds_in_turn s f g ranks v ≡ g v
  left_alone [] g v not = refl
  left_alone (n ∷ ns) g v not =
      let own = rank_in (g v) in
      let rank = round_rank s n f g v in
      left_alone ns (round_of_rank s n f g) v (ap (has ns) rank ∙ no_later (has ns own) refl) ∙ other_rank g n v (no_now (own == n) refl)
    where
      no_later : (b : Bool) → has ns (rank_in (g v)) ≡ b → has ns (rank_in (g v)) ≡ false
      no_later true is = absurd (true≢false (sym (or_right (n == rank_in (g v)) _ is) ∙ not))
      no_later false is = is

      no_now : (b : Bool) → (rank_in (g v) == n) ≡ b → (rank_in (g v) == n) ≡ false
      no_now true is = absurd (true≢false (sym (or_left (n == rank_in (g v)) _ (eq-eqb n _ (sym (eqb-true (rank_in (g v)) n is)))) ∙ not))
      no_now false is = is

  turns_rank : (ranks : List ℕ) (g : ℕ → State) (v : ℕ) → rank_in (rounds_in_turn s f g ranks v) ≡ rank_in (g v)
  turns_rank [] g v = refl
  turns_rank (n ∷ ns) g v = turns_rank ns (round_of_rank s n f g) v ∙ round_rank s n f g v

  module _ (start : ℕ → State) where
    abbrev own : ℕ → ℕ
    own v = rank_in (start v)

    -- each node is of its rank, and those of this rank are as at the start
    alike : (g : ℕ → State) (n : ℕ) → ((v : ℕ) → rank_in (g v) ≡ own v) → ((v : ℕ) → own v ≡ n → g v ≡ start v) → (v : ℕ) → IsAlike s n f (g v) (start v)
    alike g n rank waits v =
        elim (cases_Bool (own v == n)) [
          | inl same ↦ inl (waits v (eqb-true (own v) n same))
          | inr not ↦ inr (elsewhere s n f (g v) (ap (λ (r : ℕ). r == n) (rank v) ∙ not), elsewhere s n f (start v) not)
        ]

    -- each node of one of these ranks gets the round of its own
    in_turn : (ranks : List ℕ) → IsDistinct eqb ranks → (g : ℕ → State) → ((v : ℕ) → rank_in (g v) ≡ own v)
        → ((v : ℕ) → has ranks (own v) ≡ true → g v ≡ start v) → (v : ℕ) → has ranks (own v) ≡ true → rounds_in_turn s f g ranks v ≡ rounds s f start v
    in_turn [] distinct g rank waits v there = absurd (false≢true there)
    in_turn (n ∷ ns) distinct g rank waits v there =
        elim (or_cases (n == own v) (has ns (own v)) there) [
          | inl now ↦
              (let same : n ≡ own v = eqb-true n (own v) now in
              left_alone ns (round_of_rank s n f g) v (ap (has ns) (round_rank s n f g v ∙ rank v ∙ sym same) ∙ alone)
              ∙ same_round s n f g start (alike g n rank (λ u is. waits u (or_left (n == own u) _ (eq-eqb n (own u) (sym is))))) v (waits v there)
              ∙ ap (λ (r : ℕ). round_of_rank s r f start v) same)
          | inr then ↦
              in_turn ns (IsDistinct-tail eqb n ns distinct) (round_of_rank s n f g) (λ u. round_rank s n f g u ∙ rank u)
              (λ u still. other_rank g n u (ap (λ (r : ℕ). r == n) (rank u) ∙ later u still) ∙ waits u (or_right (n == own u) _ still)) v then
        ]
      where
        alone : has ns n ≡ false
        alone = not_there n ns (IsDistinct-head eqb n ns distinct)

        -- a rank of which the round is still to come is not this one
        later : (u : ℕ) → has ns (own u) ≡ true → (own u == n) ≡ false
        later u still =
            elim (cases_eq (own u) n) [
              | inl same ↦ absurd (true≢false (sym still ∙ ap (has ns) same ∙ alone))
              | inr not ↦ ne_eqb (own u) n not
            ]

    pub deliveries_in_turn : (rank : ℕ) (ranks : List ℕ) → has ranks rank ≡ false
        → round_deliveries s rank f (rounds_in_turn s f start ranks) ≡ round_deliveries s rank f start
    deliveries_in_turn rank ranks not =
        same_deliveries s rank f (rounds_in_turn s f start ranks) start
        (alike (rounds_in_turn s f start ranks) rank (turns_rank ranks start) (λ v is. left_alone ranks start v (ap (has ranks) is ∙ not)))

pub any_order : (s : ScenarioParts) → IsSoundScenario s → (f v : ℕ) (order : List ℕ) → IsPermutation (ranks_of s) order
    → rounds_in_turn s f (state_at s f) order v ≡ rounds s f (state_at s f) v
any_order s sound f v order is =
    let start = state_at s f in
    let differ = IsDistinct-IsPermutation eqb eqb_flips (ranks_of s) order is (rising_differ (ranks_of s) (range_in_turn 0 (length s.hosts))) in
    let there : has order (rank_in (start v)) ≡ true =
    sym (list_any-IsPermutation (λ x. x == rank_in (start v)) (ranks_of s) order is)
    ∙ in_range (length s.hosts) 0 (rank_in (start v)) (omega arith) (let below = hosted s sound.some_hosts f v in omega (arith, below)) in
    in_turn s f start order differ start (λ u. refl) (λ u waits. refl) v there
  where
    eqb_flips : (x y : ℕ) → eqb x y ≡ eqb y x
    eqb_flips x y = elim (cases_eq x y) [
      | inl same ↦ eq-eqb x y same ∙ sym (eq-eqb y x (sym same))
      | inr not ↦ ne_eqb x y not ∙ sym (ne_eqb y x (λ same. not (sym same)))
    ]
