-- What a search finds, and what a test of all finds.
use Rattle.std.proofs.Common.{◌≡◌, ℕ, zero, suc, ◌+◌, ◌<◌, ◌≤◌, List, [], ◌∷◌, filter, Bool, true, false, not, ◌||◌, ◌==◌, nat_lt}
use Rattle.std.proofs.Common.{Some, None, Option, cond, inl, inr, length, map, refl, sym, ◌∙◌, ap, arith, is_some}
use Rattle.std.specs.Prelude.{All, find, reverse}
use Rattle.std.specs.List.{list_any, position_or_len, range_with_len}
use Rattle.std.proofs.lemmas.Bool.{cases_eq, eq-eqb, eqb-true, false≢true, lt-ltb, or_cases, or_left, or_parts, or_right}
use Rattle.std.proofs.lemmas.List.{reverse-append}
use Rattle.std.proofs.lemmas.List.Elements.{All-cons, All-map, All-nil, All-weaker, filter_passes}
use Rattle.std.proofs.lemmas.List.Folds.{list_any-append}
use Rattle.bus_terms.specs.Flooding.{has}
use Rattle.bus_rules.specs.Cores.{own_rank}
use Rattle.bus_bounds.specs.BoundFindings.{or_one}

module _ {A : Type 0} (p : A → Bool) where
  -- nothing is found where nothing passes
  pub any_found : (xs : List A) → list_any p xs ≡ is_some (find p xs)
  any_found [] = refl
  any_found (x ∷ xs) = by_test (p x) (any_found xs)
    where
      by_test : (t : Bool) → list_any p xs ≡ is_some (find p xs) → (t || list_any p xs) ≡ is_some (cond t (Some x) (find p xs))
      by_test true rest = refl
      by_test false rest = rest

  pub none_found : (xs : List A) → find p xs ≡ None → list_any p xs ≡ false
  none_found xs none = any_found xs ∙ ap is_some none

  -- what is found passes, and another test that passes there passes somewhere
  pub found_passes : (xs : List A) (x : A) → find p xs ≡ Some x → p x ≡ true
  found_passes [] x is = absurd (cc)
  found_passes (y ∷ xs) x is = by_test (p y) refl (λ rest. found_passes xs x rest) is
    where
      by_test : (t : Bool) → p y ≡ t → (find p xs ≡ Some x → p x ≡ true) → cond t (Some y) (find p xs) ≡ Some x → p x ≡ true
      by_test true test rest is = let same : y ≡ x = cc in ap p (sym same) ∙ test
      by_test false test rest is = rest is

  pub passes_somewhere : (q : A → Bool) (xs : List A) (x : A) → find p xs ≡ Some x → q x ≡ true → list_any q xs ≡ true
  passes_somewhere q [] x is passes = absurd (cc)
  passes_somewhere q (y ∷ xs) x is passes = by_test (p y) (λ rest. passes_somewhere q xs x rest passes) is
    where
      by_test : (t : Bool) → (find p xs ≡ Some x → list_any q xs ≡ true) → cond t (Some y) (find p xs) ≡ Some x → (q y || list_any q xs) ≡ true
      by_test true rest is = let same : y ≡ x = cc in or_left (q y) (list_any q xs) (ap q same ∙ passes)
      by_test false rest is = or_right (q y) (list_any q xs) (rest is)

  pub none_weaker : (q : A → Bool) → ((x : A) → q x ≡ true → p x ≡ true) → (xs : List A) → list_any p xs ≡ false → list_any q xs ≡ false
  none_weaker q gives [] none = refl
  none_weaker q gives (x ∷ xs) none =
      let parts = or_parts (p x) (list_any p xs) none in
      by_test (q x) (gives x) parts.0 (none_weaker q gives xs parts.1)
    where
      by_test : (t : Bool) → (t ≡ true → p x ≡ true) → p x ≡ false → list_any q xs ≡ false → (t || list_any q xs) ≡ false
      by_test true gives_x fails rest = absurd (false≢true (sym fails ∙ gives_x refl))
      by_test false gives_x fails rest = rest

  swapped : (x y : Bool) → (x || (y || false)) ≡ (y || x)
  swapped true true = refl
  swapped true false = refl
  swapped false true = refl
  swapped false false = refl

  pub any_reversed : (xs : List A) → list_any p (reverse xs) ≡ list_any p xs
  any_reversed [] = refl
  any_reversed (x ∷ xs) =
      ap (list_any p) (reverse-append (x ∷ []) xs)
      ∙ list_any-append p (reverse xs) (x ∷ [])
      ∙ ap (λ (t : Bool). t || (p x || false)) (any_reversed xs)
      ∙ swapped (list_any p xs) (p x)

-- of ids
pub has_found : (p : ℕ → Bool) (xs : List ℕ) (v : ℕ) → find p xs ≡ None → has xs v ≡ true → p v ≡ false
has_found p [] v none there = absurd (false≢true there)
has_found p (x ∷ xs) v none there = by_test (p x) refl (has_found p xs v) none
  where
    by_test : (t : Bool) → p x ≡ t → (find p xs ≡ None → has xs v ≡ true → p v ≡ false) → cond t (Some x) (find p xs) ≡ None → p v ≡ false
    by_test true test rest none = absurd (cc)
    by_test false test rest none = elim (or_cases (x == v) (has xs v) there) [
      | inl here ↦ ap p (sym (eqb-true x v here)) ∙ test
      | inr later ↦ rest none later
    ]

pub found_there : (p : ℕ → Bool) (xs : List ℕ) (v : ℕ) → find p xs ≡ Some v → has xs v ≡ true
found_there p xs v is = passes_somewhere p (λ x. x == v) xs v is (eq-eqb v v refl)

-- a node among the hosts has a rank
pub has_rank : (hosts : List ℕ) (v : ℕ) → has hosts v ≡ true → (rank : ℕ) × (own_rank v hosts ≡ Some rank)
has_rank hosts v there =
    (position_or_len (λ h. h == v) hosts, rw (lt-ltb (position_or_len (λ h. h == v) hosts) (length hosts) (within hosts there)) refl)
  where
    within : (xs : List ℕ) → list_any (λ h. h == v) xs ≡ true → position_or_len (λ h. h == v) xs < length xs
    within [] some = absurd (false≢true some)
    within (x ∷ xs) some = by_test (x == v) (within xs) some
      where
        by_test : (t : Bool) → (list_any (λ h. h == v) xs ≡ true → position_or_len (λ h. h == v) xs < length xs)
            → (t || list_any (λ h. h == v) xs) ≡ true
            → cond (not t) (1 + position_or_len (λ h. h == v) xs) 0 < suc (length xs)
        by_test true rest some = omega arith
        by_test false rest some = omega (arith, rest some)

pub first_rank : (host : ℕ) (others : List ℕ) → own_rank host (host ∷ others) ≡ Some 0
first_rank host others =
    let at : position_or_len (λ h. h == host) (host ∷ others) ≡ 0 = rw (eq-eqb host host refl) refl in
    ap (λ (k : ℕ). cond {A = Option ℕ} (nat_lt k (length (host ∷ others))) (Some k) None) at
    ∙ ap (λ (b : Bool). cond {A = Option ℕ} b (Some 0) None) (lt-ltb 0 (length (host ∷ others)) (omega arith))

pub there_first : (v : ℕ) (xs : List ℕ) → has (v ∷ xs) v ≡ true
there_first v xs = or_left (v == v) (has xs v) (eq-eqb v v refl)

-- lists in which none passes
pub none_in_range : (p : ℕ → Bool) (a n : ℕ) → filter p (range_with_len a n) ≡ [] → (k : ℕ) → a ≤ k → k < a + n → p k ≡ false
none_in_range p a zero none k low high = absurd (omega (arith, low, high))
none_in_range p a (suc n) none k low high =
    by_test (p a) refl none (λ rest after. none_in_range p (a + 1) n rest k after (omega (arith, high)))
  where
    by_test : (t : Bool) → p a ≡ t → cond t (a ∷ filter p (range_with_len (a + 1) n)) (filter p (range_with_len (a + 1) n)) ≡ []
        → (filter p (range_with_len (a + 1) n) ≡ [] → a + 1 ≤ k → p k ≡ false) → p k ≡ false
    by_test true test none rest = absurd (omega (arith, ap length none))
    by_test false test none rest = elim (cases_eq k a) [
      | inl here ↦ ap p here ∙ test
      | inr other ↦ rest none (omega (arith, low, other))
    ]

pub none_mapped : {A B : Type 0} (g : A → B) (xs : List A) → map g xs ≡ [] → xs ≡ []
none_mapped g [] none = refl
none_mapped g (x ∷ xs) none = absurd (omega (arith, ap length none))

-- each of a list that has one at least
pub each_or_one : {A : Type 0} (P : A → Type 0) (a : A) (xs : List A) → (xs ≡ [] → P a) → All P xs → All P (or_one a xs)
each_or_one P a [] one all = All-cons P a [] (one refl) (All-nil P)
each_or_one P a (x ∷ xs) one all = all

pub each_kept : {A B : Type 0} (P : B → Type 0) (p : A → Bool) (g : A → B) (xs : List A) → ((x : A) → p x ≡ true → P (g x)) → All P (map g (filter p xs))
each_kept P p g xs gives = All-map P g (filter p xs) (All-weaker (λ x. p x ≡ true) (λ x. P (g x)) gives (filter p xs) (filter_passes p xs))
