-- A placing has no pair that is over.
use Rattle.std.proofs.Common.{◌≡◌, ℕ, zero, suc, ◌+◌, ◌-◌, ◌*◌, ◌<◌, ◌≤◌, List, Bool, false, ◌&&◌, nat_le, nat_lt, ◌==◌, count_by, arith, ap}
use Rattle.std.proofs.lemmas.Bool.Decides.{nat_tests}
use Rattle.std.proofs.lemmas.List.Elements.{recursion_from_All}
use Rattle.std.specs.List.{AllByRecursion}
use Rattle.deadline_plan.specs.declared.job.Job.{Job}
use Rattle.deadline_plan.specs.Jobs.{load, IsOverload}
use Rattle.deadline_plan.specs.Placings.{IsPlacing}
use Rattle.deadline_plan.proofs.Counts.{one, count_either, count_most, count_none}

none_between : (a x : ℕ) → (nat_le a x && nat_lt x (a + 0)) ≡ false
none_between a x = grind (arith, nat_tests)

one_frame_more : (a x n : ℕ) → one (nat_le a x && nat_lt x (a + suc n)) ≤ one (nat_le a x && nat_lt x (a + n)) + one (x == (a + n))
one_frame_more a x n = grind (arith, nat_tests)

inside : (a b r e x : ℕ) → r ≤ x → x < e → one (nat_le a r && nat_le e b) ≤ one (nat_le a x && nat_lt x b)
inside a b r e x low high = grind (arith, nat_tests)

pub all_of : {X : Type 0} (P : X → Type 0) → ((x : X) → P x) → (xs : List X) → AllByRecursion P xs
all_of P each xs = recursion_from_All P xs (λ k d below. each _)

module _ (slots : ℕ) (js : List Job) (frame_of : Job → ℕ) (placing : IsPlacing slots js frame_of) where
  abbrev between : ℕ → ℕ → Job → Bool
  between a b j = nat_le a (frame_of j) && nat_lt (frame_of j) b

  -- this many frames from frame a on have no more jobs than slots
  few_between : (a n : ℕ) → count_by (between a (a + n)) js ≤ slots * n
  few_between a zero =
      let none = count_none (between a (a + 0)) js (all_of (λ j. between a (a + 0) j ≡ false) (λ j. none_between a (frame_of j)) js) in
      omega (arith, none)
  few_between a (suc n) =
      let more = count_either (between a (a + suc n)) (between a (a + n)) (λ j. frame_of j == (a + n)) (λ j. one_frame_more a (frame_of j) n) js in
      omega (arith, more, few_between a n, placing.has_slots (a + n))

  pub few_jobs : (from until : ℕ) → from < until → load js from until ≤ slots * (until - from)
  few_jobs from until order =
      let n : ℕ = until - from in
      let is : from + n ≡ until = omega arith in
      let within = count_most (λ (j : Job). (j.release ≤ frame_of j) × (frame_of j < j.end)) (λ j. nat_le from j.release && nat_le j.end until)
      (between from until)
      (λ j in_time. inside from until j.release j.end (frame_of j) in_time.0 in_time.1) js (recursion_from_All _ js placing.in_time) in
      let same : count_by (between from (from + n)) js ≡ count_by (between from until) js = ap (λ (b : ℕ). count_by (between from b) js) is in
      omega (arith, within, same, few_between from n)

pub no_placing : (slots : ℕ) (js : List Job) (from until : ℕ) → IsOverload slots js from until → (frame_of : Job → ℕ) → IsPlacing slots js frame_of → ⊥
no_placing slots js from until over frame_of placing = absurd (omega (arith, few_jobs slots js frame_of placing from until over.0, over.1))
