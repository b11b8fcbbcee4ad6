-- How often a node has sent, and the steps in which it did.
use Rattle.std.proofs.Common.{◌≡◌, ℕ, suc, ◌+◌, List, [], ◌∷◌, Bool, if◌then◌else◌, is_some, sum_by, count_by, refl, arith}
use Rattle.std.proofs.lemmas.List.Sums.{sum_by-cons}
use Rattle.bus_terms.specs.Flooding.{Setting, Moment, moment, STEPS, steps}

-- the transmissions of these nodes before a step
abbrev pub sent_so_far : Moment → List ℕ → ℕ
sent_so_far m nodes = sum_by m.times nodes

module _ (s : Setting) (v : ℕ) where
  abbrev sends_in : ℕ → Bool
  sends_in k = is_some ((moment s k).sends v)

  one_more : (k : ℕ) → (moment s (suc k)).times v ≡ (moment s k).times v + (if sends_in k then 1 else 0)
  unfolding moment
  one_more k = refl

  none_yet : (moment s 0).times v ≡ 0
  unfolding moment
  none_yet = refl

  pub times_counted : (moment s STEPS).times v ≡ count_by sends_in steps
  times_counted =
      omega (
        arith,
        none_yet,
        one_more 0,
        one_more 1,
        one_more 2,
        one_more 3,
        one_more 4,
        one_more 5,
        one_more 6,
        one_more 7,
        one_more 8,
        one_more 9,
        one_more 10,
        one_more 11,
      )

pub all_sendings : (s : Setting) (nodes : List ℕ)
    → sent_so_far (moment s STEPS) nodes ≡ sum_by (λ v. count_by (λ k. is_some ((moment s k).sends v)) steps) nodes
all_sendings s [] = refl
all_sendings s (v ∷ nodes) =
    omega (
      arith,
      sum_by-cons (moment s STEPS).times v nodes,
      sum_by-cons (λ (u : ℕ). count_by (sends_in s u) steps) v nodes,
      times_counted s v,
      all_sendings s nodes,
    )
