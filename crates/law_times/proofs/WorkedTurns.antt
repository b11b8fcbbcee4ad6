-- Two nodes, each after four tries, that skip as many slots and request in the same slots until the last round of the bound.
use Rattle.std.proofs.Common.{◌≡◌, ◌≢◌, ◌≤◌, ◌-◌, ◌%◌, ◌+◌, ◌==◌, ℕ, zero, suc, Bool, true, false, Option, Some, None, refl, ap, arith}
use Rattle.law_times.proofs.Words.{eqb-true, false≢true, Streams, IsBackingOff, PartWithin, after_turns, asks_anew, ids_apart, parting_bound, slot_after}
use Rattle.law_times.proofs.ComputedTests.{all_up_to, each_up_to}

abbrev left : ℕ → Streams
left skips = record asks_anew { tries = 4; skips = skips }

abbrev is_same : Option ℕ → Option ℕ → Bool
is_same None None = true
is_same None (Some j) = false
is_same (Some i) None = false
is_same (Some i) (Some j) = i == j

of_same : (a b : Option ℕ) → is_same a b ≡ true → a ≡ b
of_same None None is = refl
of_same None (Some j) is = absurd (false≢true is)
of_same (Some i) None is = absurd (false≢true is)
of_same (Some i) (Some j) is = ap (λ (n : ℕ). Some n) (eqb-true i j is)

abbrev same_in : ℕ → ℕ → ℕ → ℕ → ℕ → Bool
same_in slots u v skips n = is_same (slot_after slots u (left skips) n) (slot_after slots v (left skips) n)

module _ (slots u v skips last : ℕ) (other : u % ids_apart slots ≢ v % ids_apart slots) (first : IsBackingOff u (left skips))
    (second : IsBackingOff v (left skips)) (same : all_up_to (same_in slots u v skips) last ≡ true) where
  not_sooner : PartWithin slots (last + 1) → ⊥
  not_sooner within =
      let answer = within u v (left skips) (left skips) other first second in
      let few = answer.1 in
      answer.2
      (of_same (slot_after slots u (left skips) answer.0) (slot_after slots v (left skips) answer.0)
      (each_up_to (same_in slots u v skips) last same answer.0 (omega (arith, few))))

same_of_1 : all_up_to (same_in 1 14 15 14) 28 ≡ true
unfolding all_up_to after_turns
same_of_1 = refl

same_of_2 : all_up_to (same_in 2 13 15 13) 26 ≡ true
unfolding all_up_to after_turns
same_of_2 = refl

same_of_3 : all_up_to (same_in 3 14 47 14) 28 ≡ true
unfolding all_up_to after_turns
same_of_3 = refl

same_of_4 : all_up_to (same_in 4 11 15 11) 22 ≡ true
unfolding all_up_to after_turns
same_of_4 = refl

backs_off : (node skips : ℕ) → skips ≤ node % 16 → IsBackingOff node (left skips)
backs_off node skips few = record { due = refl; tries = omega arith; skips = omega (arith, few) }

pub not_within_less : (slots : ℕ) → 1 ≤ slots → slots ≤ 4 → PartWithin slots (parting_bound slots - 1) → ⊥
not_within_less zero some few within = absurd (omega (arith, some))
not_within_less (suc zero) some few within =
    not_sooner 1 14 15 14 28 (λ same. absurd (omega (arith, same))) (backs_off 14 14 (omega arith)) (backs_off 15 14 (omega arith)) same_of_1 within
not_within_less (suc (suc zero)) some few within =
    not_sooner 2 13 15 13 26 (λ same. absurd (omega (arith, same))) (backs_off 13 13 (omega arith)) (backs_off 15 13 (omega arith)) same_of_2 within
not_within_less (suc (suc (suc zero))) some few within =
    not_sooner 3 14 47 14 28 (λ same. absurd (omega (arith, same))) (backs_off 14 14 (omega arith)) (backs_off 47 14 (omega arith)) same_of_3 within
not_within_less (suc (suc (suc (suc zero)))) some few within =
    not_sooner 4 11 15 11 22 (λ same. absurd (omega (arith, same))) (backs_off 11 11 (omega arith)) (backs_off 15 11 (omega arith)) same_of_4 within
not_within_less (suc (suc (suc (suc (suc n))))) some few within = absurd (omega (arith, few))
