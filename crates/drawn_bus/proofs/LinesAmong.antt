-- Which elements lists have that are put together, and tests on lists of losses that have the same lines.
use Rattle.std.proofs.Common.{◌≡◌, ℕ, zero, suc, ◌+◌, ◌<◌, ◌≤◌, ◌==◌, List, [], ◌∷◌, Bool, true, false, ◌||◌, cond, filter, flat_map, map}
use Rattle.std.proofs.Common.{inl, inr, refl, ◌∙◌, ap, arith, subst}
use Rattle.std.specs.List.{AllByRecursion, list_any, range_with_len}
use Rattle.std.proofs.lemmas.Bool.{and_from, cases_eq, eq-eqb, eqb-true, false≢true, or_cases, or_left, or_right}
use Rattle.std.proofs.lemmas.List.Folds.{list_any-append}
use Rattle.lwb_base.proofs.Lists.{each_append}
use Rattle.lwb_base.proofs.Truths.{same_truth}
use Rattle.link_trace.specs.declared.lines.LoseLine.{LoseLine}
use Rattle.link_trace.specs.Passes.{is_loss}
use Rattle.bus_terms.specs.Flooding.{has}
use Rattle.bus_terms.proofs.OneInitiator.{any_of}
use Rattle.drawn_bus.proofs.LinesWithLosses.{named_so}

-- a number below n is one of the first n
in_range : (n b i : ℕ) → b ≤ i → i < b + n → has (range_with_len b n) i ≡ true
in_range zero b i from below = absurd (omega (arith, from, below))
in_range (suc n) b i from below =
    elim (cases_eq b i) [
      | inl same ↦ or_left (b == i) _ (eq-eqb b i same)
      | inr other ↦ or_right (b == i) _ (in_range n (b + 1) i (omega (arith, from, other)) (omega (arith, below)))
    ]

-- one of these numbers passes
pub passes_among : (test : ℕ → Bool) (n b : ℕ) → list_any test (range_with_len b n) ≡ true → (i : ℕ) × (i < b + n) × (test i ≡ true)
passes_among test zero b is = absurd (false≢true is)
passes_among test (suc n) b is =
    elim (or_cases (test b) _ is) [
      | inl here ↦ (b, omega arith, here)
      | inr later ↦ (let w = passes_among test n (b + 1) later in (w.0, omega (arith, w.1), w.2))
    ]

pub in_range_passes : (test : ℕ → Bool) (n i : ℕ) → i < n → test i ≡ true → list_any test (range_with_len 0 n) ≡ true
in_range_passes test n i below is = any_of test (range_with_len 0 n) i (in_range n 0 i (omega arith) (omega (arith, below))) is

module _ {Y : Type 0} where
  -- a list of which one part has such an element
  joined_any : (p : Y → Bool) (g : ℕ → List Y) (xs : List ℕ) → list_any p (flat_map g xs) ≡ list_any (λ x. list_any p (g x)) xs
  joined_any p g [] = refl
  joined_any p g (x ∷ xs) = list_any-append p (g x) (flat_map g xs) ∙ ap (λ (b : Bool). list_any p (g x) || b) (joined_any p g xs)

  pub any_joined : (p : Y → Bool) (g : ℕ → List Y) (xs : List ℕ) (i : ℕ) → has xs i ≡ true → list_any p (g i) ≡ true → list_any p (flat_map g xs) ≡ true
  any_joined p g xs i there is = joined_any p g xs ∙ any_of (λ x. list_any p (g x)) xs i there is

  pub any_in_range : (p : Y → Bool) (g : ℕ → List Y) (n i : ℕ) → i < n → list_any p (g i) ≡ true → list_any p (flat_map g (range_with_len 0 n)) ≡ true
  any_in_range p g n i below is = any_joined p g (range_with_len 0 n) i (in_range n 0 i (omega arith) (omega (arith, below))) is

  pub any_chosen : (p : Y → Bool) (g : ℕ → Y) (q : ℕ → Bool) (xs : List ℕ) (i : ℕ) → has xs i ≡ true → q i ≡ true → p (g i) ≡ true
      → list_any p (map g (filter q xs)) ≡ true
  any_chosen p g q [] i there chosen is = absurd (false≢true there)
  any_chosen p g q (x ∷ xs) i there chosen is =
      elim (or_cases (x == i) _ there) [
        | inl same ↦ here (q x) (ap q (eqb-true x i same) ∙ chosen) (ap (λ (n : ℕ). p (g n)) (eqb-true x i same) ∙ is)
        | inr later ↦ there_too (q x) (any_chosen p g q xs i later chosen is)
      ]
    where
      here : (b : Bool) → b ≡ true → p (g x) ≡ true → list_any p (map g (cond b (x ∷ filter q xs) (filter q xs))) ≡ true
      here true so passes = or_left (p (g x)) _ passes
      here false so passes = absurd (false≢true so)

      there_too : (b : Bool) → list_any p (map g (filter q xs)) ≡ true → list_any p (map g (cond b (x ∷ filter q xs) (filter q xs))) ≡ true
      there_too true rest = or_right (p (g x)) _ rest
      there_too false rest = rest

  -- what holds of each element of the parts
  pub each_in_range : (P : Y → Type 0) (g : ℕ → List Y) (n b : ℕ) → ((i : ℕ) → i < b + n → AllByRecursion P (g i))
      → AllByRecursion P (flat_map g (range_with_len b n))
  each_in_range P g zero b each = tt
  each_in_range P g (suc n) b each =
      each_append P (g b) (flat_map g (range_with_len (b + 1) n)) (each b (omega arith))
      (each_in_range P g n (b + 1) (λ i below. each i (omega (arith, below))))

  pub each_chosen : (P : Y → Type 0) (g : ℕ → Y) (q : ℕ → Bool) (xs : List ℕ) → ((i : ℕ) → q i ≡ true → P (g i)) → AllByRecursion P (map g (filter q xs))
  each_chosen P g q [] each = tt
  each_chosen P g q (x ∷ xs) each = by_test (q x) refl (each_chosen P g q xs each)
    where
      by_test : (b : Bool) → q x ≡ b → AllByRecursion P (map g (filter q xs)) → AllByRecursion P (map g (cond b (x ∷ filter q xs) (filter q xs)))
      by_test true is rest = (each x is, rest)
      by_test false is rest = rest

-- the losses have this line
abbrev pub HasLine : List LoseLine → LoseLine → Type 0
HasLine ls l = list_any (is_loss l.frame l.slot l.step l.from l.to) ls ≡ true

pub is_itself : (l : LoseLine) → is_loss l.frame l.slot l.step l.from l.to l ≡ true
is_itself l =
    and_from _ (l.to == l.to)
    (and_from _ (l.from == l.from)
    (and_from _ (l.step == l.step)
    (and_from (l.frame == l.frame) (l.slot == l.slot) (eq-eqb l.frame l.frame refl) (eq-eqb l.slot l.slot refl))
    (eq-eqb l.step l.step refl)) (eq-eqb l.from l.from refl)) (eq-eqb l.to l.to refl)

-- what holds of each line of these, also where it is asked of the lines that they have
line_of_test : (test : LoseLine → Bool) (ls : List LoseLine) → list_any test ls ≡ true → (l : LoseLine) × HasLine ls l × (test l ≡ true)
line_of_test test [] is = absurd (false≢true is)
line_of_test test (l ∷ ls) is =
    elim (or_cases (test l) _ is) [
      | inl here ↦ (l, or_left (is_loss l.frame l.slot l.step l.from l.to l) _ (is_itself l), here)
      | inr later ↦ (let w = line_of_test test ls later in (w.0, or_right (is_loss w.0.frame w.0.slot w.0.step w.0.from w.0.to l) _ w.1, w.2))
    ]

test_of_line : (test : LoseLine → Bool) (ls : List LoseLine) (l : LoseLine) → HasLine ls l → test l ≡ true → list_any test ls ≡ true
test_of_line test [] l there is = absurd (false≢true there)
test_of_line test (m ∷ ls) l there is =
    elim (or_cases (is_loss l.frame l.slot l.step l.from l.to m) _ there) [
      | inl here ↦ or_left (test m) _ (ap test (named_so l.frame l.slot l.step l.from l.to m here) ∙ is)
      | inr later ↦ or_right (test m) _ (test_of_line test ls l later is)
    ]

pub each_holds : (P : LoseLine → Type 0) (ls : List LoseLine) → AllByRecursion P ls → (l : LoseLine) → HasLine ls l → P l
each_holds P [] each l there = absurd (false≢true there)
each_holds P (m ∷ ls) each l there =
    elim (or_cases (is_loss l.frame l.slot l.step l.from l.to m) _ there) [
      | inl here ↦ subst P (named_so l.frame l.slot l.step l.from l.to m here) each.0
      | inr later ↦ each_holds P ls each.1 l later
    ]

-- no test tells lists apart that have the same lines
pub same_tests : (xs ys : List LoseLine) → ((l : LoseLine) → HasLine xs l → HasLine ys l) → ((l : LoseLine) → HasLine ys l → HasLine xs l)
    → (test : LoseLine → Bool) → list_any test xs ≡ list_any test ys
same_tests xs ys to from test =
    same_truth (list_any test xs) (list_any test ys)
    (λ is. (let w = line_of_test test xs is in test_of_line test ys w.0 (to w.0 w.1) w.2))
    (λ is. (let w = line_of_test test ys is in test_of_line test xs w.0 (from w.0 w.1) w.2))
