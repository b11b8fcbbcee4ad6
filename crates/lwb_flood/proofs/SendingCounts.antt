-- How many transmissions there are.
use Rattle.std.proofs.Common.{◌≡◌, ℕ, zero, suc, ◌+◌, ◌≤◌, List, [], ◌∷◌, Bool, true, false, ◌&&◌, inl, inr, Option, Some, None, is_some, refl}
use Rattle.std.proofs.Common.{sym, ◌∙◌, ap, subst, arith, length, ◌==◌, nat_lt, sum_by, eq-eqb}
use Rattle.std.specs.Prelude.{Contains}
use Rattle.std.proofs.lemmas.Bool.{cases_order, cases_Bool, cases_eq, or_cases, or_parts, and_parts, and_from, eqb-true, ne_eqb, lt-ltb, ltb-true, le-ltb}
use Rattle.std.proofs.lemmas.Bool.{false≢true, both_ways, false_from_ne_true}
use Rattle.std.proofs.lemmas.List.Sums.{sum_by-cons}
use Rattle.bus_terms.specs.Flooding.{Setting, moment, has}
use Rattle.radio_model.specs.declared.sending.Sending.{Sending}
use Rattle.lwb_flood.specs.FloodRun.{counter, Run, FloodRun, packet}
use Rattle.lwb_base.proofs.Elements.{not_in_none, contains_head, contains_tail, contains_cases, Distinct}
use Rattle.lwb_base.proofs.Options.{not_both}
use Rattle.lwb_base.proofs.Truths.{one_if}
use Rattle.bus_terms.proofs.Options.{inspect}
use Rattle.lwb_flood.proofs.SendingTimes.{timed, counter_is}
use Rattle.lwb_flood.proofs.StepsOnAir.{IsAt}
use Rattle.lwb_flood.proofs.WholeFlood.{at_step}

abbrev number : {X : Type 0} → (X → Bool) → List X → ℕ
number p [] = 0
number p (x ∷ xs) = one_if (p x) + number p xs

abbrev total : {X : Type 0} → (X → ℕ) → List X → ℕ
total g [] = 0
total g (x ∷ xs) = g x + total g xs

total_is : {X : Type 0} (g : X → ℕ) (xs : List X) → sum_by g xs ≡ total g xs
total_is g [] = refl
total_is g (x ∷ xs) = let p = sum_by-cons g x xs in omega (arith, p, total_is g xs)

total_same : {X : Type 0} (g h : X → ℕ) → ((x : X) → g x ≡ h x) → (xs : List X) → total g xs ≡ total h xs
total_same g h same [] = refl
total_same g h same (x ∷ xs) = omega (arith, same x, total_same g h same xs)

number_none : {X : Type 0} (p : X → Bool) (xs : List X) → ((x : X) → Contains xs x → p x ≡ true → ⊥) → number p xs ≡ 0
number_none p [] none = refl
number_none p (x ∷ xs) none =
    let here : p x ≡ false = false_from_ne_true (p x) (none x (contains_head x xs)) in
    let zero_here : one_if (p x) ≡ 0 = ap one_if here in
    omega (arith, zero_here, number_none p xs (λ y there. none y (contains_tail x xs y there)))

number_one : {X : Type 0} (p : X → Bool) (xs : List X) → Distinct xs → ((x y : X) → Contains xs x → Contains xs y → p x ≡ true → p y ≡ true → x ≡ y)
    → (x : X) → Contains xs x → p x ≡ true → number p xs ≡ 1
number_one p [] distinct once x there is = absurd (not_in_none x there)
number_one p (y ∷ ys) distinct once x there is =
    elim (cases_Bool (p y)) [
      | inl passes ↦
          (let rest = number_none p ys
          (λ z later is_z. distinct.0 (subst (λ (w : _). Contains ys w) (once z y (contains_tail y ys z later) (contains_head y ys) is_z passes) later)) in
          let here : one_if (p y) ≡ 1 = ap one_if passes in
          omega (arith, rest, here))
      | inr fails ↦
          (let here : one_if (p y) ≡ 0 = ap one_if fails in
          let later : Contains ys x = elim (contains_cases y ys x there) [ inl same ↦ absurd (both_ways (p y) fails (ap p same ∙ is)) | inr later ↦ later ] in
          omega (arith, here, number_one p ys distinct.1 (λ a b in_a in_b. once a b (contains_tail y ys a in_a) (contains_tail y ys b in_b)) x later is))
    ]

number_sum : {X : Type 0} (p q w : X → Bool) → ((x : X) → one_if (w x) ≡ one_if (p x) + one_if (q x)) → (xs : List X) → number w xs ≡ number p xs + number q xs
number_sum p q w same [] = refl
number_sum p q w same (x ∷ xs) = omega (arith, same x, number_sum p q w same xs)

number_same : {X : Type 0} (p q : X → Bool) (xs : List X) → ((x : X) → Contains xs x → p x ≡ q x) → number p xs ≡ number q xs
number_same p q [] same = refl
number_same p q (x ∷ xs) same =
    let here : one_if (p x) ≡ one_if (q x) = ap one_if (same x (contains_head x xs)) in
    omega (arith, here, number_same p q xs (λ y there. same y (contains_tail x xs y there)))

-- of distinct nodes one is this
not_there : (n : ℕ) (vs : List ℕ) → has vs n ≡ false → total (λ v. one_if (n == v)) vs ≡ 0
not_there n [] none = refl
not_there n (v ∷ vs) none =
    let parts = or_parts (v == n) _ none in
    let here : one_if (n == v) ≡ 0 = ap one_if (ne_eqb n v (λ same. both_ways (v == n) parts.0 (eq-eqb v n (sym same)))) in
    omega (arith, here, not_there n vs parts.1)

has_contains : (vs : List ℕ) (n : ℕ) → has vs n ≡ true → Contains vs n
has_contains [] n there = absurd (false≢true there)
has_contains (v ∷ vs) n there =
    elim (or_cases (v == n) _ there) [
      | inl same ↦ subst (λ (i : ℕ). Contains (v ∷ vs) i) (eqb-true v n same) (contains_head v vs)
      | inr later ↦ contains_tail v vs n (has_contains vs n later)
    ]

there_once : (n : ℕ) (vs : List ℕ) → Distinct vs → has vs n ≡ true → total (λ v. one_if (n == v)) vs ≡ 1
there_once n [] distinct there = absurd (false≢true there)
there_once n (v ∷ vs) distinct there =
    elim (cases_eq v n) [
      | inl same ↦
          (let here : one_if (n == v) ≡ 1 = ap one_if (eq-eqb n v (sym same)) in
          let none : has vs n ≡ false = false_from_ne_true (has vs n)
          (λ later. distinct.0 (subst (λ (i : ℕ). Contains vs i) (sym same) (has_contains vs n later))) in
          omega (arith, here, not_there n vs none))
      | inr other ↦
          (let here : one_if (n == v) ≡ 0 = ap one_if (ne_eqb n v (λ same. other (sym same))) in
          let later : has vs n ≡ true = elim (or_cases (v == n) _ there) [ inl same ↦ absurd (other (eqb-true v n same)) | inr later ↦ later ] in
          omega (arith, here, there_once n vs distinct.1 later))
    ]

total_zero : {X : Type 0} (xs : List X) → total (λ v. 0) xs ≡ 0
total_zero [] = refl
total_zero (x ∷ xs) = omega (arith, total_zero xs)

total_plus : {X : Type 0} (g h : X → ℕ) (xs : List X) → total (λ v. g v + h v) xs ≡ total g xs + total h xs
total_plus g h [] = refl
total_plus g h (x ∷ xs) = omega (arith, total_plus g h xs)

-- all are counted by their nodes
by_nodes : (vs : List ℕ) → Distinct vs → (xs : List Sending) → ((x : Sending) → Contains xs x → has vs x.node ≡ true)
    → total (λ v. number (λ (x : Sending). x.node == v) xs) vs ≡ length xs
by_nodes vs distinct [] all = total_zero vs
by_nodes vs distinct (x ∷ xs) all =
    let one = there_once x.node vs distinct (all x (contains_head x xs)) in
    let rest = by_nodes vs distinct xs (λ y there. all y (contains_tail x xs y there)) in
    let sum = total_plus (λ (v : ℕ). one_if (x.node == v)) (λ (v : ℕ). number (λ (y : Sending). y.node == v) xs) vs in
    omega (arith, one, rest, sum)

module _ (r : Run) (Tuned : ℕ → Sending → Type 0) (f : FloodRun r Tuned) (distinct : Distinct r.sendings) where
  abbrev s : Setting
  s = r.setting

  abbrev sent_by : ℕ → Sending → Bool
  sent_by v x = x.node == v

  abbrev sent_before : ℕ → ℕ → Sending → Bool
  sent_before v k x = (x.node == v) && nat_lt (counter x) k

  abbrev sent_in : ℕ → ℕ → Sending → Bool
  sent_in v k x = (x.node == v) && (counter x == k)

  one_step_more : (b : Bool) (c k : ℕ) → one_if (b && nat_lt c (suc k)) ≡ one_if (b && nat_lt c k) + one_if (b && (c == k))
  one_step_more false c k = refl
  one_step_more true c k =
      elim (cases_order c k) [
        | inl same ↦ rw (lt-ltb c (suc k) (omega arith), le-ltb c k (omega arith), eq-eqb c k same) refl
        | inr other ↦ elim other [
          | inl less ↦ rw (lt-ltb c (suc k) (omega arith), lt-ltb c k less, ne_eqb c k (omega arith)) refl
          | inr more ↦ rw (le-ltb c (suc k) (omega arith), le-ltb c k (omega arith), ne_eqb c k (omega arith)) refl
        ]
      ]

  now_sent : (k v : ℕ) → k ≤ 11 → IsAt r k (moment s k) → number (sent_in v k) r.sendings ≡ one_if (is_some ((moment s k).sends v))
  now_sent k v few at =
      elim (inspect ((moment s k).sends v)) [
        | inl none ↦
            (let nothing : one_if (is_some ((moment s k).sends v)) ≡ 0 = ap (λ (o : Option ℕ). one_if (is_some o)) none in
            omega (arith, nothing, number_none (sent_in v k) r.sendings (λ x there is. absent none x there (and_parts _ _ is))))
        | inr some ↦
            (let one : one_if (is_some ((moment s k).sends v)) ≡ 1 = ap (λ (o : Option ℕ). one_if (is_some o)) some.1 in
            let z = at.sent v some.0 some.1 in
            let step = counter_is r f.times some.0 k z.sending z.initiator z.packet in
            omega (
              arith,
              one,
              number_one (sent_in v k) r.sendings distinct only z.sending z.sent
                  (and_from _ _ (eq-eqb z.sending.node v z.node) (eq-eqb (counter z.sending) k step)),
            ))
      ]
    where
      absent : (moment s k).sends v ≡ None → (x : Sending) → Contains r.sendings x → ((x.node == v) ≡ true) × ((counter x == k) ≡ true) → ⊥
      absent none x there is =
          let t = timed r f.times x there in
          let step = eqb-true (counter x) k is.1 in
          let sends = at.sends x t.origin there t.initiator (t.packet ∙ ap (λ (i : ℕ). packet r t.origin i) step) in
          not_both ((moment s k).sends v) t.origin none (subst (λ (w : ℕ). (moment s k).sends w ≡ Some t.origin) (eqb-true x.node v is.0) sends)

      only : (x y : Sending) → Contains r.sendings x → Contains r.sendings y → sent_in v k x ≡ true → sent_in v k y ≡ true → x ≡ y
      only x y in_x in_y is_x is_y =
          let p = and_parts (x.node == v) _ is_x in
          let q = and_parts (y.node == v) _ is_y in
          at.once x y in_x in_y (eqb-true (counter x) k p.1) (eqb-true (counter y) k q.1) (eqb-true x.node v p.0 ∙ sym (eqb-true y.node v q.0))

  times_as : (k v : ℕ) → (moment s (suc k)).times v ≡ (moment s k).times v + one_if (is_some ((moment s k).sends v))
  unfolding moment
  times_as k v = refl

  no_times : (v : ℕ) → (moment s 0).times v ≡ 0
  unfolding moment
  no_times v = refl

  -- so often has v sent before step k
  sent_times : (k v : ℕ) → k ≤ 12 → number (sent_before v k) r.sendings ≡ (moment s k).times v
  sent_times zero v few = number_none (sent_before v 0) r.sendings (λ x there is. never x (and_parts (x.node == v) _ is).1) ∙ sym (no_times v)
    where
      never : (x : Sending) → nat_lt (counter x) 0 ≡ true → ⊥
      never x is = let less = ltb-true (counter x) 0 is in omega arith
  sent_times (suc k) v few =
      let before = sent_times k v (omega arith) in
      let sum = number_sum (sent_before v k) (sent_in v k) (sent_before v (suc k)) (λ x. one_step_more (x.node == v) (counter x) k) r.sendings in
      let now = now_sent k v (omega arith) (at_step r Tuned f k (omega arith)) in
      let more = times_as k v in
      omega (arith, before, sum, now, more)

  all_sent : (v : ℕ) → number (sent_by v) r.sendings ≡ (moment s 12).times v
  all_sent v = number_same (sent_by v) (sent_before v 12) r.sendings (λ x there. sym (in_time x there)) ∙ sent_times 12 v (omega arith)
    where
      in_time : (x : Sending) → Contains r.sendings x → sent_before v 12 x ≡ sent_by v x
      in_time x there = (let few = (timed r f.times x there).few in rw (lt-ltb (counter x) 12 (omega arith)) (and_true (x.node == v)))
        where
          and_true : (b : Bool) → (b && true) ≡ b
          and_true true = refl
          and_true false = refl

  -- the transmissions of all nodes
  pub count : Distinct s.everyone → length r.sendings ≡ sum_by (moment s 12).times s.everyone
  count nodes =
      sym (by_nodes s.everyone nodes r.sendings (λ x there. (timed r f.times x there).here))
      ∙ total_same (λ (v : ℕ). number (sent_by v) r.sendings) (moment s 12).times all_sent s.everyone
      ∙ sym (total_is (moment s 12).times s.everyone)
