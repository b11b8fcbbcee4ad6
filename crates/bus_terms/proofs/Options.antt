-- Options and lists of origins: the only one of several, and what a filter gives.
use Rattle.std.proofs.Common.{◌≡◌, ℕ, List, [], ◌∷◌, Bool, true, false, if◌then◌else◌, inl, inr, eq-eqb}
use Rattle.std.proofs.Common.{Option, Some, None, refl, sym, ◌∙◌, ap, filter_map, ◌==◌}
use Rattle.std.specs.Prelude.{◌⊎◌}
use Rattle.std.specs.List.{list_all, cons_option}
use Rattle.std.specs.Option.{option_and_then}
use Rattle.std.proofs.lemmas.Bool.{cases_Bool, or_right, or_left, or_cases, eqb-true, and_parts, and_from, false≢true, cond-true, cond-false}
use Rattle.std.proofs.lemmas.Option.{same_Some}
use Rattle.bus_terms.specs.Flooding.{has, only_one}

pub inspect : {X : Type 0} (o : Option X) → (o ≡ None) ⊎ ((x : X) × (o ≡ Some x))
inspect None = inl refl
inspect (Some x) = inr (x, refl)

-- the only one, or the other
pub all_are : (o : ℕ) (os : List ℕ) → list_all (λ x. x == o) os ≡ true → (p : ℕ) → has os p ≡ true → p ≡ o
all_are o [] all p there = absurd (false≢true there)
all_are o (x ∷ os) all p there =
    let both = and_parts (x == o) _ all in
    elim (or_cases (x == p) _ there) [ inl same ↦ sym (eqb-true x p same) ∙ eqb-true x o both.0 | inr later ↦ all_are o os both.1 p later ]

are_all : (o : ℕ) (os : List ℕ) → ((p : ℕ) → has os p ≡ true → p ≡ o) → list_all (λ x. x == o) os ≡ true
are_all o [] all = refl
are_all o (x ∷ os) all =
    and_from (x == o) _ (eq-eqb x o (all x (or_left _ _ (eq-eqb x x refl)))) (are_all o os (λ p there. all p (or_right (x == p) _ there)))

pub only_when : (cs : List ℕ) (other : Option ℕ) (o : ℕ) → has cs o ≡ true → (((p : ℕ) → has cs p ≡ true → p ≡ o) ⊎ (other ≡ Some o))
    → only_one cs other ≡ Some o
only_when [] other o there why = absurd (false≢true there)
only_when (x ∷ os) other o there (inl all) =
    let is : x ≡ o = all x (or_left _ _ (eq-eqb x x refl)) in
    let same : list_all (λ y. y == x) os ≡ true = are_all x os (λ p later. all p (or_right (x == p) _ later) ∙ sym is) in
    cond-true (list_all (λ y. y == x) os) (Some x) other same ∙ ap (λ (y : ℕ). Some y) is
only_when (x ∷ os) other o there (inr is) =
    elim (cases_Bool (list_all (λ y. y == x) os)) [
      | inl same ↦ cond-true (list_all (λ y. y == x) os) (Some x) other same
          ∙ ap (λ (y : ℕ). Some y) (sym (elim (or_cases (x == o) _ there) [ inl at ↦ sym (eqb-true x o at) | inr later ↦ all_are x os same o later ]))
      | inr differ ↦ cond-false (list_all (λ y. y == x) os) (Some x) other differ ∙ is
    ]

pub only_from : (cs : List ℕ) (other : Option ℕ) (o : ℕ) → only_one cs other ≡ Some o
    → ((has cs o ≡ true) × ((p : ℕ) → has cs p ≡ true → p ≡ o)) ⊎ (other ≡ Some o)
only_from [] other o is = absurd (none_some o is)
  where
    none_some : (o : ℕ) → None ≡ Some o → ⊥
    none_some o is = cc
only_from (x ∷ os) other o is =
    elim (cases_Bool (list_all (λ y. y == x) os)) [
      | inl same ↦
          (let at : x ≡ o = same_Some x o (sym (cond-true (list_all (λ y. y == x) os) (Some x) other same) ∙ is) in
          inl (
            or_left (x == o) _ (eq-eqb x o at),
            λ p there. elim (or_cases (x == p) _ there) [ inl here ↦ sym (eqb-true x p here) ∙ at | inr later ↦ all_are x os same p later ∙ at ],
          ))
      | inr differ ↦ inr (sym (cond-false (list_all (λ y. y == x) os) (Some x) other differ) ∙ is)
    ]

-- what a filter gives
module _ (f : ℕ → Option ℕ) where
  has_cons : (c : Option ℕ) (os : List ℕ) (o : ℕ) → has os o ≡ true → has (cons_option c os) o ≡ true
  has_cons None os o there = there
  has_cons (Some x) os o there = or_right (x == o) _ there

  has_first : (c : Option ℕ) (os : List ℕ) (o : ℕ) → c ≡ Some o → has (cons_option c os) o ≡ true
  has_first c os o is = rw is (or_left (o == o) _ (eq-eqb o o refl))

  pub in_filter : (us : List ℕ) (u o : ℕ) → has us u ≡ true → f u ≡ Some o → has (filter_map f us) o ≡ true
  in_filter [] u o there is = absurd (false≢true there)
  in_filter (w ∷ us) u o there is =
      elim (or_cases (w == u) _ there) [
        | inl same ↦ has_first (f w) (filter_map f us) o (ap f (eqb-true w u same) ∙ is)
        | inr later ↦ has_cons (f w) (filter_map f us) o (in_filter us u o later is)
      ]

  from_cons : (c : Option ℕ) (os : List ℕ) (o : ℕ) → has (cons_option c os) o ≡ true → (c ≡ Some o) ⊎ (has os o ≡ true)
  from_cons None os o there = inr there
  from_cons (Some x) os o there = elim (or_cases (x == o) _ there) [ inl same ↦ inl (ap (λ (y : ℕ). Some y) (eqb-true x o same)) | inr later ↦ inr later ]

  pub from_filter : (us : List ℕ) (o : ℕ) → has (filter_map f us) o ≡ true → (u : ℕ) × (has us u ≡ true) × (f u ≡ Some o)
  from_filter [] o there = absurd (false≢true there)
  from_filter (w ∷ us) o there =
      elim (from_cons (f w) (filter_map f us) o there) [
        | inl is ↦ (w, or_left (w == w) _ (eq-eqb w w refl), is)
        | inr later ↦ (let u = from_filter us o later in (u.0, or_right (w == u.0) _ u.1, u.2))
      ]

-- what is received by steps
pub heard_parts : (may : Bool) (c : ℕ → Bool) (got : Option ℕ) (o : ℕ)
    → (if may then option_and_then (λ p. if c p then Some p else None) got else None) ≡ Some o → (may ≡ true) × (got ≡ Some o) × (c o ≡ true)
heard_parts false c got o is = absurd (cc)
heard_parts true c None o is = absurd (cc)
heard_parts true c (Some p) o is = by_cases (c p) refl is
  where
    by_cases : (b : Bool) → c p ≡ b → (if b then Some p else None) ≡ Some o → (true ≡ true) × (Some p ≡ Some o) × (c o ≡ true)
    by_cases false at is = absurd (cc)
    by_cases true at is = (refl, is, (let same : p ≡ o = cc in ap c (sym same) ∙ at))

pub sends_parts : (early : Bool) (got : Option ℕ) (o : ℕ) → (if early then got else None) ≡ Some o → (early ≡ true) × (got ≡ Some o)
sends_parts false got o is = absurd (cc)
sends_parts true got o is = (refl, is)

pub named_parts : (g : ℕ → Option ℕ) (c : Option ℕ) (o : ℕ) → option_and_then g c ≡ Some o → (u : ℕ) × (c ≡ Some u) × (g u ≡ Some o)
named_parts g None o is = absurd (cc)
named_parts g (Some u) o is = (u, refl, is)
