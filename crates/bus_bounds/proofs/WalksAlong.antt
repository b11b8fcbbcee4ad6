-- Walks of links along some nodes: along more of them, along those that are reached, and of one link more.
use Rattle.std.proofs.Common.{◌≡◌, ℕ, zero, suc, ◌+◌, ◌<◌, ◌≤◌, List, [], ◌∷◌, Bool, true, false, ◌&&◌, ◌||◌, ◌==◌, inl, inr, refl, sym, ◌∙◌, ap, arith, filter}
use Rattle.std.specs.List.{list_any, range_with_len}
use Rattle.std.proofs.Common.{◌++◌, cond, get_or, if◌then◌else◌, length, map, take}
use Rattle.std.proofs.lemmas.List.{map-append, take_more}
use Rattle.std.proofs.lemmas.List.Elements.{filter-append}
use Rattle.std.proofs.lemmas.Bool.{and_from, and_parts, cases_eq, eq-eqb, eqb-true, false≢true, or_cases, or_left, or_right}
use Rattle.lwb_base.proofs.Truths.{same_truth}
use Rattle.bus_terms.specs.Distances.{walks}
use Rattle.bus_terms.specs.Flooding.{has}
use Rattle.bus_terms.proofs.OneInitiator.{any_of, witness}

-- what is in a range, and in what a test leaves
pub range_has : (a n k : ℕ) → a ≤ k → k < a + n → has (range_with_len a n) k ≡ true
range_has a zero k low high = absurd (omega (arith, low, high))
range_has a (suc n) k low high = elim (cases_eq k a) [
  | inl here ↦ or_left (a == k) (has (range_with_len (a + 1) n) k) (eq-eqb a k (sym here))
  | inr other ↦ or_right (a == k) (has (range_with_len (a + 1) n) k) (range_has (a + 1) n k (omega (arith, low, other)) (omega (arith, high)))
]

pub in_range : (a n k : ℕ) → has (range_with_len a n) k ≡ true → (a ≤ k) × (k < a + n)
in_range a zero k there = absurd (false≢true there)
in_range a (suc n) k there = elim (or_cases (a == k) (has (range_with_len (a + 1) n) k) there) [
  | inl here ↦ (let same = eqb-true a k here in (omega (arith, same), omega (arith, same)))
  | inr later ↦ (let rest = in_range (a + 1) n k later in (omega (arith, rest.0), omega (arith, rest.1)))
]

pub kept_has : (p : ℕ → Bool) (xs : List ℕ) (v : ℕ) → has (filter p xs) v ≡ (has xs v && p v)
kept_has p [] v = refl
kept_has p (x ∷ xs) v = by_test (p x) refl (kept_has p xs v)
  where
    same : (x == v) ≡ true → p v ≡ p x
    same here = ap p (sym (eqb-true x v here))

    none : (q : Bool) → (q && false) ≡ false
    none true = refl
    none false = refl

    by_test : (t : Bool) → p x ≡ t → has (filter p xs) v ≡ (has xs v && p v)
        → has (cond t (x ∷ filter p xs) (filter p xs)) v ≡ (((x == v) || has xs v) && p v)
    by_test true is rest = by_own (x == v) refl
      where
        by_own : (b : Bool) → (x == v) ≡ b → (b || has (filter p xs) v) ≡ ((b || has xs v) && p v)
        by_own true own = sym (same own ∙ is)
        by_own false own = rest
    by_test false is rest = by_own (x == v) refl
      where
        by_own : (b : Bool) → (x == v) ≡ b → has (filter p xs) v ≡ ((b || has xs v) && p v)
        by_own true own = rest ∙ ap (λ (t : Bool). has xs v && t) (same own ∙ is) ∙ none (has xs v) ∙ sym (same own ∙ is)
        by_own false own = rest

pub in_kept : (p : ℕ → Bool) (xs : List ℕ) (v : ℕ) → has xs v ≡ true → p v ≡ true → has (filter p xs) v ≡ true
in_kept p xs v there passes = kept_has p xs v ∙ and_from (has xs v) (p v) there passes

pub of_kept : (p : ℕ → Bool) (xs : List ℕ) (v : ℕ) → has (filter p xs) v ≡ true → (has xs v ≡ true) × (p v ≡ true)
of_kept p xs v there = and_parts (has xs v) (p v) (sym (kept_has p xs v) ∙ there)

module _ (link : ℕ → ℕ → Bool) (start : ℕ) where
  pub one_link_more : (xs : List ℕ) (i u v : ℕ) → has xs u ≡ true → walks link xs start i u ≡ true → link u v ≡ true → walks link xs start (suc i) v ≡ true
  unfolding walks
  one_link_more xs i u v there is linked =
      any_of (λ x. walks link xs start i x && link x v) xs u there (and_from (walks link xs start i u) (link u v) is linked)

  pub last_link : (xs : List ℕ) (i v : ℕ) → walks link xs start (suc i) v ≡ true
      → (u : ℕ) × (has xs u ≡ true) × (walks link xs start i u ≡ true) × (link u v ≡ true)
  unfolding walks
  last_link xs i v is =
      let w = witness (λ x. walks link xs start i x && link x v) xs is in
      let parts = and_parts (walks link xs start i w.0) (link w.0 v) w.2 in
      (w.0, w.1, parts.0, parts.1)

  pub no_link : (xs : List ℕ) (v : ℕ) → walks link xs start 0 v ≡ (v == start)
  unfolding walks
  no_link xs v = refl

  -- a walk of at most this many links
  abbrev pub within : List ℕ → ℕ → ℕ → Bool
  within xs most v = list_any (λ links. walks link xs start links v) (range_with_len 0 (most + 1))

  pub by_walk : (xs : List ℕ) (most i v : ℕ) → i ≤ most → walks link xs start i v ≡ true → within xs most v ≡ true
  by_walk xs most i v few is =
      any_of (λ links. walks link xs start links v) (range_with_len 0 (most + 1)) i (range_has 0 (most + 1) i (omega arith) (omega (arith, few))) is

  pub a_walk : (xs : List ℕ) (most v : ℕ) → within xs most v ≡ true → (i : ℕ) × (i ≤ most) × (walks link xs start i v ≡ true)
  a_walk xs most v is =
      let w = witness (λ links. walks link xs start links v) (range_with_len 0 (most + 1)) is in
      let r = in_range 0 (most + 1) w.0 w.1 in
      (w.0, omega (arith, r.1), w.2)

  pub more_nodes : (xs ys : List ℕ) → ((v : ℕ) → has xs v ≡ true → has ys v ≡ true) → (i v : ℕ) → walks link xs start i v ≡ true
      → walks link ys start i v ≡ true
  more_nodes xs ys are zero v is = no_link ys v ∙ sym (no_link xs v) ∙ is
  more_nodes xs ys are (suc i) v is =
      let w = last_link xs i v is in
      one_link_more ys i w.0 v (are w.0 w.1) (more_nodes xs ys are i w.0 w.2) w.3

  -- the nodes on a walk are reached by its beginnings
  pub stays_within : (xs ys : List ℕ) (most : ℕ) → ((v : ℕ) → has xs v ≡ true → within xs most v ≡ true → has ys v ≡ true) → (i v : ℕ) → i ≤ most
      → walks link xs start i v ≡ true → walks link ys start i v ≡ true
  stays_within xs ys most are zero v few is = no_link ys v ∙ sym (no_link xs v) ∙ is
  stays_within xs ys most are (suc i) v few is =
      let w = last_link xs i v is in
      one_link_more ys i w.0 v (are w.0 w.1 (by_walk xs most i w.0 (omega (arith, few)) w.2))
      (stays_within xs ys most are i w.0 (omega (arith, few)) w.2) w.3

  pub at_start : (xs : List ℕ) (v : ℕ) → has (start ∷ []) v ≡ within xs 0 v
  at_start xs v =
      same_truth (has (start ∷ []) v) (within xs 0 v)
      (λ is. by_walk xs 0 0 v (omega arith) (no_link xs v ∙ eq-eqb v start (sym (here is))))
      (λ is. let w = a_walk xs 0 v is in or_left (start == v) false (eq-eqb start v (back w.0 w.1 w.2)))
    where
      here : has (start ∷ []) v ≡ true → start ≡ v
      here is = elim (or_cases (start == v) false is) [
        | inl same ↦ eqb-true start v same
        | inr none ↦ absurd (false≢true none)
      ]

      back : (i : ℕ) → i ≤ 0 → walks link xs start i v ≡ true → start ≡ v
      back zero few is = sym (eqb-true v start (sym (no_link xs v) ∙ is))
      back (suc i) few is = absurd (omega (arith, few))

  -- the nodes of at most one link more
  pub step_more : (xs nodes : List ℕ) (pass : ℕ → ℕ → Bool) (most : ℕ) → ((u v : ℕ) → pass u v ≡ link u v)
      → ((v : ℕ) → has xs v ≡ true → has nodes v ≡ within xs most v) → ((v : ℕ) → has nodes v ≡ true → has xs v ≡ true)
      → (v : ℕ) → has xs v ≡ true → list_any (λ u. (u == v) || pass u v) nodes ≡ within xs (most + 1) v
  step_more xs nodes pass most same are among v there =
      same_truth (list_any next nodes) (within xs (most + 1) v) onward (λ is. let w = a_walk xs (most + 1) v is in back w.0 w.1 w.2)
    where
      next : ℕ → Bool
      next u = (u == v) || pass u v

      onward : list_any next nodes ≡ true → within xs (most + 1) v ≡ true
      onward is =
          let w = witness next nodes is in
          let u = w.0 in
          let walk = a_walk xs most u (sym (are u (among u w.1)) ∙ w.1) in
          elim (or_cases (u == v) (pass u v) w.2) [
            | inl here ↦ by_walk xs (most + 1) walk.0 v (omega (arith, walk.1)) (ap (walks link xs start walk.0) (sym (eqb-true u v here)) ∙ walk.2)
            | inr passes ↦ by_walk xs (most + 1) (suc walk.0) v (omega (arith, walk.1))
                (one_link_more xs walk.0 u v (among u w.1) walk.2 (sym (same u v) ∙ passes))
          ]

      back : (i : ℕ) → i ≤ most + 1 → walks link xs start i v ≡ true → list_any next nodes ≡ true
      back zero few is = any_of next nodes v (are v there ∙ by_walk xs most 0 v (omega arith) is) (or_left (v == v) (pass v v) (eq-eqb v v refl))
      back (suc i) few is =
          let w = last_link xs i v is in
          any_of next nodes w.0 (are w.0 w.1 ∙ by_walk xs most i w.0 (omega (arith, few)) w.2)
          (or_right (w.0 == v) (pass w.0 v) (same w.0 v ∙ w.3))

-- one element more of those that a test leaves
pub kept_more : {X : Type 0} (p : ℕ → Bool) (g : X → ℕ) (xs : List X) (i : ℕ) (x : X) → i < length xs → x ≡ get_or xs i x
    → filter p (map g (take (i + 1) xs)) ≡ filter p (map g (take i xs)) ++ (if p (g x) then g x ∷ [] else [])
kept_more {X} p g xs i x below is =
    ap (λ (ys : List X). filter p (map g ys)) (take_more xs i x below)
    ∙ ap (λ (y : X). filter p (map g (take i xs ++ y ∷ []))) (sym is)
    ∙ ap (filter p) (map-append g (take i xs) (x ∷ []))
    ∙ filter-append p (map g (take i xs)) (g x ∷ [])

pub kept_one_more : (p : ℕ → Bool) (xs : List ℕ) (i x : ℕ) → i < length xs → x ≡ get_or xs i x
    → filter p (take (i + 1) xs) ≡ filter p (take i xs) ++ (if p x then x ∷ [] else [])
kept_one_more p xs i x below is =
    ap (filter p) (take_more xs i x below)
    ∙ ap (λ (y : ℕ). filter p (take i xs ++ y ∷ [])) (sym is)
    ∙ filter-append p (take i xs) (x ∷ [])
