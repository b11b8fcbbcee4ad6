-- Tests that are computed: for all numbers up to one, and for each number of a list.
use Rattle.std.proofs.Common.{◌≡◌, ◌≢◌, ◌≤◌, ◌+◌, ◌-◌, ◌==◌, ◌&&◌, ℕ, zero, suc, List, [], ◌∷◌, Bool, true, not, inl, inr, sym, ◌∙◌, ap, subst, arith, None}
use Rattle.std.proofs.Common.{if◌then◌else◌, refl, false, Some}
use Rattle.std.proofs.lemmas.Bool.{not-true}
use Rattle.law_times.proofs.Words.{and_parts, cases_eq, cases_lt, eq-eqb, eqb-true, false≢true, has, list_all, or_cases, find, or_left, or_right}

unfoldable pub all_up_to : (ℕ → Bool) → ℕ → Bool
all_up_to test zero = test 0
all_up_to test (suc n) = test (suc n) && all_up_to test n

pub each_up_to : (test : ℕ → Bool) (n : ℕ) → all_up_to test n ≡ true → (m : ℕ) → m ≤ n → test m ≡ true
unfolding all_up_to
each_up_to test zero all m below = subst (λ (k : ℕ). test k ≡ true) (omega (arith, below)) all
each_up_to test (suc n) all m below = elim (cases_eq m (suc n)) [
  | inl same ↦ subst (λ (k : ℕ). test k ≡ true) (sym same) (and_parts (test (suc n)) (all_up_to test n) all).0
  | inr other ↦ each_up_to test n (and_parts (test (suc n)) (all_up_to test n) all).1 m (omega (arith, below, other))
]

-- a count that comes again after twelve rounds, from one on, is never 1 if it is not in the first rounds
pub never_one : (counted : ℕ → ℕ) (first : ℕ) → ((n : ℕ) → first ≤ n → counted (n + 12) ≡ counted n)
    → all_up_to (λ n. not (counted n == 1)) (first + 11) ≡ true → (fuel n : ℕ) → n ≤ fuel + (first + 11) → counted n ≢ 1
never_one counted first again computed zero n few =
    (λ one. false≢true (sym (not-true (counted n == 1) (each_up_to (λ n. not (counted n == 1)) (first + 11) computed n (omega (arith, few))))
    ∙ eq-eqb (counted n) 1 one))
never_one counted first again computed (suc fuel) n few = elim (cases_lt n (first + 12)) [
  | inl below ↦ never_one counted first again computed fuel n (omega (arith, below))
  | inr more ↦
      (λ one. let m : ℕ = n - 12 in
      let at : m + 12 ≡ n = omega (arith, more) in
      never_one counted first again computed fuel m (omega (arith, few, at)) (sym (again m (omega (arith, more, at))) ∙ ap counted at ∙ one))
]

-- what holds of each number of a list
abbrev pub Each : (ℕ → Type 0) → List ℕ → Type 0
Each P [] = Unit {0}
Each P (v ∷ vs) = P v × Each P vs

pub each_of : (P : ℕ → Type 0) (vs : List ℕ) → Each P vs → (v : ℕ) → has vs v ≡ true → P v
each_of P [] all v there = absurd (false≢true there)
each_of P (u ∷ vs) all v there = elim (or_cases (u == v) (has vs v) there) [
  | inl same ↦ subst P (eqb-true u v same) all.0
  | inr later ↦ each_of P vs all.1 v later
]

-- of all but the first
pub others_of : (P : ℕ → Type 0) (first : ℕ) (vs : List ℕ) → Each P vs → (v : ℕ) → has (first ∷ vs) v ≡ true → v ≢ first → P v
others_of P first vs all v there other = elim (or_cases (first == v) (has vs v) there) [
  | inl same ↦ absurd (other (sym (eqb-true first v same)))
  | inr later ↦ each_of P vs all v later
]

pub all_of : (test : ℕ → Bool) (vs : List ℕ) → list_all test vs ≡ true → (v : ℕ) → has vs v ≡ true → test v ≡ true
all_of test [] all v there = absurd (false≢true there)
all_of test (u ∷ vs) all v there =
    let both = and_parts (test u) (list_all test vs) all in
    elim (or_cases (u == v) (has vs v) there) [
      | inl same ↦ ap test (sym (eqb-true u v same)) ∙ both.0
      | inr later ↦ all_of test vs both.1 v later
    ]

-- what no number of a list passes is not found
pub none_found : (test : ℕ → Bool) (xs : List ℕ) → ((v : ℕ) → has xs v ≡ true → test v ≡ false) → find test xs ≡ None
none_found test [] none = refl
none_found test (x ∷ xs) none =
    ap (λ (b : Bool). if b then Some x else find test xs) (none x (or_left (x == x) (has xs x) (eq-eqb x x refl)))
    ∙ none_found test xs (λ v there. none v (or_right (x == v) (has xs v) there))
