-- Two nodes whose ids differ modulo 16 part: as long as both request in the same slots of the same rounds their tries rise to four, and then
-- they skip different numbers of rounds. With three contention slots those whose ids are equal modulo 16, and not modulo 48, then have
-- different slots. How many rounds it takes at most is computed over all residues and tries.
use Rattle.std.proofs.Common.{◌≡◌, ◌≢◌, ◌<◌, ◌≤◌, ◌+◌, ◌-◌, ◌^◌, ◌%◌, ◌==◌, ◌||◌, ℕ, zero, suc, Bool, true, false, Some, inl, inr, if◌then◌else◌, is_some, min}
use Rattle.std.proofs.Common.{nat_le, refl, sym, ◌∙◌, ap, subst, arith}
use Rattle.law_times.proofs.Words.{cases_eq, cases_lt, eq-eqb, eqb-true, false≢true, leb-true, ne_eqb, or_cases, Streams, own_number, IsBackingOff, PartWithin}
use Rattle.law_times.proofs.Words.{parting_bound, slot_after}
use Rattle.law_times.proofs.Backoffs.{skips_on, from_zero, Backoff, turned, backoff_of, spot, spot_asks, spot_by, asks, later}
use Rattle.law_times.proofs.ComputedTests.{all_up_to, each_up_to}

module _ (slots : ℕ) where
  -- in a round up to the n-th one of two requests in a slot of its own
  abbrev Part : ℕ → ℕ → Backoff → Backoff → ℕ → Type 0
  Part u v b c most = (n : ℕ) × (n ≤ most) × (spot slots u (turned u b n) ≢ spot slots v (turned v c n))

  part_later : (u v : ℕ) (b c : Backoff) (n most more : ℕ) → n + most ≤ more → Part u v (turned u b n) (turned v c n) most → Part u v b c more
  part_later u v b c n most more few (m, within, differ) =
      (m + n, omega (arith, few, within), λ same. differ (sym (ap (spot slots u) (later u b n m)) ∙ same ∙ ap (spot slots v) (later v c n m)))

  part_now : (u v t k s l : ℕ) → k < l → Part u v (t, k) (s, l) k
  part_now u v t k s l less = (
    k,
    omega arith,
    λ same. false≢true (sym busy
        ∙ sym (sym (spot_asks slots u (turned u (t, k) k)) ∙ ap is_some same ∙ spot_asks slots v (turned v (s, l) k)) ∙ free),
  )
    where
      free : asks (turned u (t, k) k) ≡ true
      free = ap asks (from_zero u t k)

      busy : asks (turned v (s, l) k) ≡ false
      busy = ap asks (skips_on v s l k (omega (arith, less))) ∙ ne_eqb (l - k) 0 (λ none. absurd (omega (arith, less, none)))

  part_flips : (u v : ℕ) (b c : Backoff) (most : ℕ) → Part v u c b most → Part u v b c most
  part_flips u v b c most (n, within, differ) = (n, within, λ same. differ (sym same))

  part_soon : (u v t k s l most : ℕ) → (k ≡ l → ⊥) → min k l ≤ most → Part u v (t, k) (s, l) most
  part_soon u v t k s l most other few = elim (cases_lt k l) [
    | inl less ↦ (let p = part_now u v t k s l less in let within = p.1 in (p.0, omega (arith, within, few, less), p.2))
    | inr more ↦
        (let less : l < k = omega (arith, more, other) in
        let p = part_flips u v (t, k) (s, l) l (part_now v u s l t k less) in
        let within = p.1 in
        (p.0, omega (arith, within, few, less), p.2))
  ]

-- the most rounds until two that both request now part, by their residues and tries; many where they do not
unfoldable meet : ℕ → ℕ → ℕ → ℕ → ℕ → ℕ → ℕ
meet zero slots a b t s = 99
meet (suc fuel) slots a b t s =
    if own_number a t slots == own_number b s slots
    then (if a % 2 ^ min 4 (t + 1) == b % 2 ^ min 4 (s + 1) then a % 2 ^ min 4 (t + 1) + 1 + meet fuel slots a b (min 4 (t + 1)) (min 4 (s + 1))
    else min (a % 2 ^ min 4 (t + 1)) (b % 2 ^ min 4 (s + 1)) + 1)
    else 0

-- over all residues and tries
abbrev is_soon : ℕ → ℕ → ℕ → ℕ → ℕ → ℕ → Bool
is_soon slots most a b t s = nat_le (min (a % 2 ^ t) (b % 2 ^ s) + meet 6 slots a b t s) most

abbrev are_soon : ℕ → ℕ → ℕ → ℕ → Bool
are_soon slots most a b = (a == b) || all_up_to (λ t. all_up_to (λ s. is_soon slots most a b t s) 4) 4

abbrev all_are_soon : ℕ → ℕ → ℕ → Bool
all_are_soon slots most top = all_up_to (λ a. all_up_to (λ b. are_soon slots most a b) top) top

-- residues say all, modulo 16 and with the number of slots
module _ (slots top most : ℕ) (few_rounds : most ≤ 29) (residue : (w t : ℕ) → t ≤ 4 → w % 2 ^ t ≡ (w % (top + 1)) % 2 ^ t)
    (number : (w t : ℕ) → own_number w t slots ≡ own_number (w % (top + 1)) t slots) (in_range : (w : ℕ) → w % (top + 1) ≤ top)
    (all : all_are_soon slots most top ≡ true) where
  soon : (a b t s : ℕ) → a ≤ top → b ≤ top → (a ≡ b → ⊥) → t ≤ 4 → s ≤ 4 → min (a % 2 ^ t) (b % 2 ^ s) + meet 6 slots a b t s ≤ most
  soon a b t s first second other few fewer =
      let rest = each_up_to (λ b. are_soon slots most a b) top
      (each_up_to (λ a. all_up_to (λ b. are_soon slots most a b) top) top all a first) b second in
      elim (or_cases (a == b) _ rest) [
        | inl same ↦ absurd (other (eqb-true a b same))
        | inr ok ↦
            leb-true (min (a % 2 ^ t) (b % 2 ^ s) + meet 6 slots a b t s) most
            (each_up_to (λ s. is_soon slots most a b t s) 4 (each_up_to (λ t. all_up_to (λ s. is_soon slots most a b t s) 4) 4 ok t few) s fewer)
      ]

  -- after a request in the same slot they skip as long, or part
  module _ (u v : ℕ) where
    abbrev a : ℕ
    a = u % (top + 1)

    abbrev b : ℕ
    b = v % (top + 1)

    parts : (fuel t s : ℕ) → meet fuel slots a b t s ≤ 50 → Part slots u v (t, 0) (s, 0) (meet fuel slots a b t s)
    unfolding meet turned
    parts zero t s few = absurd (omega (arith, few))
    parts (suc fuel) t s few =
        by_slot (own_number a t slots == own_number b s slots) refl (a % 2 ^ min 4 (t + 1) == b % 2 ^ min 4 (s + 1)) refl few
        (parts fuel (min 4 (t + 1)) (min 4 (s + 1)))
      where
        t1 : ℕ
        t1 = min 4 (t + 1)

        s1 : ℕ
        s1 = min 4 (s + 1)

        next : ℕ
        next = meet fuel slots a b t1 s1

        by_slot : (one : Bool) → (own_number a t slots == own_number b s slots) ≡ one → (same : Bool) → (a % 2 ^ t1 == b % 2 ^ s1) ≡ same
            → (if one then (if same then a % 2 ^ t1 + 1 + next else min (a % 2 ^ t1) (b % 2 ^ s1) + 1) else 0) ≤ 50
            → (next ≤ 50 → Part slots u v (t1, 0) (s1, 0) next)
            → Part slots u v (t, 0) (s, 0) (if one then (if same then a % 2 ^ t1 + 1 + next else min (a % 2 ^ t1) (b % 2 ^ s1) + 1) else 0)
        by_slot false is same at few more = (
          0,
          omega arith,
          λ met. (let here : own_number u t slots ≡ own_number v s slots = some_same (own_number u t slots) (own_number v s slots) met in
              false≢true (sym is ∙ eq-eqb (own_number a t slots) (own_number b s slots) (sym (number u t) ∙ here ∙ number v s))),
        )
          where
            some_same : (m n : ℕ) → Some m ≡ Some n → m ≡ n
            some_same m n same = cc
        by_slot true is true at few more =
            let k : u % 2 ^ t1 ≡ a % 2 ^ t1 = residue u t1 (omega arith) in
            let l : v % 2 ^ s1 ≡ b % 2 ^ s1 = residue v s1 (omega arith) in
            let same : u % 2 ^ t1 ≡ v % 2 ^ s1 = k ∙ eqb-true (a % 2 ^ t1) (b % 2 ^ s1) at ∙ sym l in
            let first : turned u (t, 0) (u % 2 ^ t1 + 1) ≡ (t1, 0) = later u (t, 0) 1 (u % 2 ^ t1) ∙ from_zero u t1 (u % 2 ^ t1) in
            let second : turned v (s, 0) (u % 2 ^ t1 + 1) ≡ (s1, 0) =
            ap (λ (n : ℕ). turned v (s, 0) (n + 1)) same ∙ later v (s, 0) 1 (v % 2 ^ s1) ∙ from_zero v s1 (v % 2 ^ s1) in
            part_later slots u v (t, 0) (s, 0) (u % 2 ^ t1 + 1) next (a % 2 ^ t1 + 1 + next) (omega (arith, k))
            (subst (λ (c : Backoff). Part slots u v c (turned v (s, 0) (u % 2 ^ t1 + 1)) next) (sym first)
            (subst (λ (c : Backoff). Part slots u v (t1, 0) c next) (sym second) (more (omega (arith, few)))))
        by_slot true is false at few more =
            let k : u % 2 ^ t1 ≡ a % 2 ^ t1 = residue u t1 (omega arith) in
            let l : v % 2 ^ s1 ≡ b % 2 ^ s1 = residue v s1 (omega arith) in
            part_later slots u v (t, 0) (s, 0) 1 (min (a % 2 ^ t1) (b % 2 ^ s1)) (min (a % 2 ^ t1) (b % 2 ^ s1) + 1) (omega arith)
            (part_soon slots u v t1 (u % 2 ^ t1) s1 (v % 2 ^ s1) (min (a % 2 ^ t1) (b % 2 ^ s1))
            (λ same. false≢true (sym at ∙ eq-eqb (a % 2 ^ t1) (b % 2 ^ s1) (sym k ∙ same ∙ l))) (omega (arith, k, l)))

    part_in : (x y : Streams) → (a ≡ b → ⊥) → IsBackingOff u x → IsBackingOff v y
        → (n : ℕ) × (n < most + 1) × (slot_after slots u x n ≢ slot_after slots v y n)
    part_in x y other first second = elim (cases_eq x.skips y.skips) [ inl same ↦ together same | inr differ ↦ apart differ ]
      where
        bound : min (a % 2 ^ x.tries) (b % 2 ^ y.tries) + meet 6 slots a b x.tries y.tries ≤ most
        bound = soon a b x.tries y.tries (in_range u) (in_range v) other first.tries second.tries

        low : x.skips ≤ a % 2 ^ x.tries
        low = (let most = first.skips in let same = residue u x.tries first.tries in omega (arith, most, same))

        high : y.skips ≤ b % 2 ^ y.tries
        high = (let most = second.skips in let same = residue v y.tries second.tries in omega (arith, most, same))

        answer : Part slots u v (backoff_of x) (backoff_of y) most → (n : ℕ) × (n < most + 1) × (slot_after slots u x n ≢ slot_after slots v y n)
        answer (n, few, differ) = (
          n,
          omega (arith, few),
          λ same. differ (sym (spot_by slots u x first.due n) ∙ same ∙ spot_by slots v y second.due n),
        )

        apart : (x.skips ≡ y.skips → ⊥) → (n : ℕ) × (n < most + 1) × (slot_after slots u x n ≢ slot_after slots v y n)
        apart differ = answer (part_soon slots u v x.tries x.skips y.tries y.skips most differ (omega (arith, bound, low, high)))

        together : x.skips ≡ y.skips → (n : ℕ) × (n < most + 1) × (slot_after slots u x n ≢ slot_after slots v y n)
        together same =
            let now : turned u (backoff_of x) x.skips ≡ (x.tries, 0) = from_zero u x.tries x.skips in
            let also : turned v (backoff_of y) x.skips ≡ (y.tries, 0) =
            ap (λ (n : ℕ). turned v (backoff_of y) n) same ∙ from_zero v y.tries y.skips in
            answer
            (part_later slots u v (backoff_of x) (backoff_of y) x.skips (meet 6 slots a b x.tries y.tries) most (omega (arith, bound, low, high, same))
            (subst (λ (c : Backoff). Part slots u v c (turned v (backoff_of y) x.skips) (meet 6 slots a b x.tries y.tries)) (sym now)
            (subst (λ (c : Backoff). Part slots u v (x.tries, 0) c (meet 6 slots a b x.tries y.tries)) (sym also)
            (parts 6 x.tries y.tries (omega (arith, bound, few_rounds))))))

-- a residue modulo a power of two up to 16
of_16 : (u t : ℕ) → t ≤ 4 → u % 2 ^ t ≡ (u % 16) % 2 ^ t
of_16 u zero few = omega arith
of_16 u (suc zero) few = omega arith
of_16 u (suc (suc zero)) few = omega arith
of_16 u (suc (suc (suc zero))) few = omega arith
of_16 u (suc (suc (suc (suc zero)))) few = omega arith
of_16 u (suc (suc (suc (suc (suc t))))) few = absurd (omega (arith, few))

of_48 : (u t : ℕ) → t ≤ 4 → u % 2 ^ t ≡ (u % 48) % 2 ^ t
of_48 u zero few = omega arith
of_48 u (suc zero) few = omega arith
of_48 u (suc (suc zero)) few = omega arith
of_48 u (suc (suc (suc zero))) few = omega arith
of_48 u (suc (suc (suc (suc zero)))) few = omega arith
of_48 u (suc (suc (suc (suc (suc t))))) few = absurd (omega (arith, few))

soon_in_1 : all_are_soon 1 29 15 ≡ true
unfolding all_up_to meet
soon_in_1 = refl

soon_in_2 : all_are_soon 2 27 15 ≡ true
unfolding all_up_to meet
soon_in_2 = refl

soon_in_3 : all_are_soon 3 29 47 ≡ true
unfolding all_up_to meet
soon_in_3 = refl

soon_in_4 : all_are_soon 4 23 15 ≡ true
unfolding all_up_to meet
soon_in_4 = refl

pub part_within : (slots : ℕ) → 1 ≤ slots → slots ≤ 4 → PartWithin slots (parting_bound slots)
part_within zero some few u v x y other first second = absurd (omega (arith, some))
part_within (suc zero) some few u v x y other first second =
    part_in 1 15 29 (omega arith) of_16 (λ w t. omega arith) (λ w. omega arith) soon_in_1 u v x y other first second
part_within (suc (suc zero)) some few u v x y other first second =
    part_in 2 15 27 (omega arith) of_16 (λ w t. omega arith) (λ w. omega arith) soon_in_2 u v x y other first second
part_within (suc (suc (suc zero))) some few u v x y other first second =
    part_in 3 47 29 (omega arith) of_48 (λ w t. omega arith) (λ w. omega arith) soon_in_3 u v x y other first second
part_within (suc (suc (suc (suc zero)))) some few u v x y other first second =
    part_in 4 15 23 (omega arith) of_16 (λ w t. omega arith) (λ w. omega arith) soon_in_4 u v x y other first second
part_within (suc (suc (suc (suc (suc n))))) some few u v x y other first second = absurd (omega (arith, few))
