-- Sums over lists: by a key of their elements, and where one element counts alone.
use Rattle.std.proofs.Common.{◌≡◌, ℕ, zero, suc, ◌+◌, ◌<◌, ◌≤◌, ◌==◌, List, [], ◌∷◌, if◌then◌else◌, inl, inr}
use Rattle.std.proofs.Common.{Option, Some, None, Contains, filter_map, sum_by, refl, sym, ◌∙◌, ap, subst, arith}
use Rattle.std.specs.Prelude.{◌⊎◌}
use Rattle.std.specs.List.{cons_option, range_with_len}
use Rattle.std.specs.Option.{option_map_or}
use Rattle.std.proofs.lemmas.Bool.{cases_lt, cond_both, cond-true, cond-false, eq-eqb, eqb-true, ne_eqb}
use Rattle.std.proofs.lemmas.List.Sums.{sum_by-cons}
use Rattle.lwb_base.proofs.Elements.{Distinct, contains_cases, contains_head, contains_tail, not_in_none}
use Rattle.lwb_base.proofs.NumbersOfRanges.{from_range}

module _ {X : Type 0} where
  -- terms that are the same
  pub same_sums : (f g : X → ℕ) (xs : List X) → ((x : X) → Contains xs x → f x ≡ g x) → sum_by f xs ≡ sum_by g xs
  same_sums f g [] same = refl
  same_sums f g (x ∷ xs) same =
      sum_by-cons f x xs
      ∙ ap (λ (n : ℕ). n + sum_by f xs) (same x (contains_head x xs))
      ∙ ap (λ (n : ℕ). g x + n) (same_sums f g xs (λ y there. same y (contains_tail x xs y there)))
      ∙ sym (sum_by-cons g x xs)

  pub no_sum : (f : X → ℕ) (xs : List X) → ((x : X) → Contains xs x → f x ≡ 0) → sum_by f xs ≡ 0
  no_sum f [] none = refl
  no_sum f (x ∷ xs) none =
      let rest = no_sum f xs (λ y there. none y (contains_tail x xs y there)) in
      let first = none x (contains_head x xs) in
      omega (arith, sum_by-cons f x xs, rest, first)

  pub sum_added : (f g : X → ℕ) (xs : List X) → sum_by (λ x. f x + g x) xs ≡ sum_by f xs + sum_by g xs
  sum_added f g [] = refl
  sum_added f g (x ∷ xs) =
      omega (arith, sum_by-cons (λ (y : X). f y + g y) x xs, sum_by-cons f x xs, sum_by-cons g x xs, sum_added f g xs)

  -- one element of a list without repetitions counts alone
  pub one_counts : (f : X → ℕ) (x : X) (xs : List X) → Distinct xs → Contains xs x → ((y : X) → Contains xs y → (y ≡ x → ⊥) → f y ≡ 0)
      → sum_by f xs ≡ f x
  one_counts f x [] apart there none = absurd (not_in_none x there)
  one_counts f x (y ∷ xs) apart there none =
      elim (contains_cases y xs x there) [
        | inl same ↦
            (let rest = no_sum f xs (λ z later. none z (contains_tail y xs z later) (λ is. apart.0 (subst (Contains xs) (is ∙ sym same) later))) in
            let first = ap f same in
            omega (arith, sum_by-cons f y xs, rest, first))
        | inr later ↦
            (let rest = one_counts f x xs apart.1 later (λ z at. none z (contains_tail y xs z at)) in
            let first = none y (contains_head y xs) (λ is. apart.0 (subst (Contains xs) (sym is) later)) in
            omega (arith, sum_by-cons f y xs, rest, first))
      ]

  -- what x counts under a key: nothing under one that it does not have
  abbrev pub under : (X → ℕ) → (X → ℕ) → ℕ → X → ℕ
  under key f i x = if key x == i then f x else 0

  pub under_its : (key f : X → ℕ) (i : ℕ) (x : X) → key x ≡ i → under key f i x ≡ f x
  under_its key f i x is = cond-true (key x == i) (f x) 0 (eq-eqb (key x) i is)

  pub under_none : (key f : X → ℕ) (i : ℕ) (x : X) → (key x ≡ i → f x ≡ 0) → under key f i x ≡ 0
  under_none key f i x none =
      cond_both (key x == i) (f x) 0 (λ (n : ℕ). n ≡ 0) (λ is. none (eqb-true (key x) i is)) (λ other. refl)

-- one number of a range counts alone
once_in_range : (c k a n : ℕ) → a ≤ k → k < a + n → sum_by (λ i. if k == i then c else 0) (range_with_len a n) ≡ c
once_in_range c k a zero from below = absurd (omega (arith, from, below))
once_in_range c k a (suc n) from below =
    elim (cases_lt a k) [
      | inl later ↦
          (let rest = once_in_range c k (a + 1) n (omega (arith, later)) (omega (arith, below)) in
          let first : ◌≡◌ {A = ℕ} (if k == a then c else 0) 0 = cond-false (k == a) c 0 (ne_eqb k a (λ is. omega (arith, is, later))) in
          omega (arith, sum_by-cons (λ (i : ℕ). if k == i then c else 0) a (range_with_len (a + 1) n), rest, first))
      | inr early ↦
          (let rest : sum_by (λ (i : ℕ). if k == i then c else 0) (range_with_len (a + 1) n) ≡ 0 =
          no_sum (λ (i : ℕ). if k == i then c else 0) (range_with_len (a + 1) n) (λ i there.
          let within = from_range (a + 1) n i there in
          cond-false (k == i) c 0 (ne_eqb k i (λ is. omega (arith, is, early, within)))) in
          let first : ◌≡◌ {A = ℕ} (if k == a then c else 0) c = cond-true (k == a) c 0 (eq-eqb k a (omega (arith, from, early))) in
          omega (arith, sum_by-cons (λ (i : ℕ). if k == i then c else 0) a (range_with_len (a + 1) n), rest, first))
    ]

module _ {X : Type 0} (key f : X → ℕ) (n : ℕ) where
  abbrev keys : List ℕ
  keys = range_with_len 0 n

  one_key : (x : X) → (key x < n) ⊎ (f x ≡ 0) → sum_by (λ i. under key f i x) keys ≡ f x
  one_key x (inl below) = once_in_range (f x) (key x) 0 n (omega arith) (omega (arith, below))
  one_key x (inr none) = no_sum (λ (i : ℕ). under key f i x) keys (λ i there. under_none key f i x (λ is. none)) ∙ sym none

  -- a sum by the keys of what counts
  pub by_key : (xs : List X) → ((x : X) → Contains xs x → (key x < n) ⊎ (f x ≡ 0)) → sum_by f xs ≡ sum_by (λ i. sum_by (under key f i) xs) keys
  by_key [] within = sym (no_sum (λ (i : ℕ). sum_by (under key f i) []) keys (λ i there. refl))
  by_key (x ∷ xs) within =
      let first = one_key x (within x (contains_head x xs)) in
      let rest = by_key xs (λ y there. within y (contains_tail x xs y there)) in
      let both = sum_added (λ (i : ℕ). under key f i x) (λ (i : ℕ). sum_by (under key f i) xs) keys in
      let split = same_sums (λ (i : ℕ). sum_by (under key f i) (x ∷ xs)) (λ (i : ℕ). under key f i x + sum_by (under key f i) xs) keys
      (λ i there. sum_by-cons (under key f i) x xs) in
      omega (arith, sum_by-cons f x xs, first, rest, both, split)

-- of what a filter gives
pub sum_given : {X Y : Type 0} (f : Y → ℕ) (g : X → Option Y) (xs : List X) → sum_by f (filter_map g xs) ≡ sum_by (λ x. option_map_or f (g x) 0) xs
sum_given f g [] = refl
sum_given {X} {Y} f g (x ∷ xs) = by_given (g x) (sum_given f g xs) ∙ sym (sum_by-cons (λ (y : X). option_map_or f (g y) 0) x xs)
  where
    rest : ℕ
    rest = sum_by (λ (y : X). option_map_or f (g y) 0) xs

    by_given : (o : Option Y) → sum_by f (filter_map g xs) ≡ rest → sum_by f (cons_option o (filter_map g xs)) ≡ option_map_or f o 0 + rest
    by_given None is = omega (arith, is)
    by_given (Some y) is = sum_by-cons f y (filter_map g xs) ∙ ap (λ (n : ℕ). f y + n) is
