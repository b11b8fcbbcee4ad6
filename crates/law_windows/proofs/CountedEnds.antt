-- How many own transmissions have ended by a tick, and when the last that may be ends.
use Rattle.std.proofs.Common.{◌≡◌, ◌≢◌, ℕ, zero, suc, ◌<◌, ◌≤◌, List, [], ◌∷◌, Bool, true, false, nat_le, get_or, map, Contains, AllPairs, refl}
use Rattle.std.proofs.Common.{sym, ◌∙◌, ap, arith, inl, inr, true≢false}
use Rattle.std.proofs.lemmas.Bool.{cases_lt, leb-true, le-leb}
use Rattle.air_log.specs.NodeEvents.{Event, Heard, Ended, sending_of_event, own_ends}
use Rattle.lwb_base.proofs.Elements.{contains_head, contains_tail, contains_cases, pairs_head, pairs_tail}
use Rattle.lwb_base.proofs.Truths.{one_if}
use Rattle.law_windows.specs.WindowEvents.{happening_of}
use Rattle.law_windows.specs.WindowRadios.{sendings_in}

pub not_by : (t k : ℕ) → k < t → nat_le t k ≡ false
not_by t k after = of_test (nat_le t k) refl
  where
    of_test : (b : Bool) → nat_le t k ≡ b → b ≡ false
    of_test false is = refl
    of_test true is = absurd (let le = leb-true t k is in omega (arith, le, after))

abbrev Ordered : List Event → Type 0
Ordered es = AllPairs (λ (d e : Event). ((sending_of_event d).end ≤ (sending_of_event e).end) × (d ≢ e)) es

-- none has ended before the first of them
none_by : (k : ℕ) (es : List Event) → ((e : Event) → Contains es e → k < (sending_of_event e).end) → sendings_in k (map happening_of es) ≡ 0
none_by k [] later = refl
none_by k (Heard x ∷ es) later = let rest = none_by k es (λ e there. later e (contains_tail (Heard x) es e there)) in omega (arith, rest)
none_by k (Ended x ∷ es) later =
    let rest = none_by k es (λ e there. later e (contains_tail (Ended x) es e there)) in
    let after = later (Ended x) (contains_head (Ended x) es) in
    let none : one_if (nat_le x.end k) ≡ 0 = ap one_if (not_by x.end k after) in
    omega (arith, rest, none)

-- fewer than n + 1 have ended by tick k if and only if that one ends later
pub few_early : (k n far : ℕ) (es : List Event) → Ordered es → k < get_or (own_ends es) n far → sendings_in k (map happening_of es) ≤ n
few_early k n far [] order early = omega arith
few_early k n far (Heard x ∷ es) order early =
    let rest = few_early k n far es (pairs_tail (λ (d e : Event). ((sending_of_event d).end ≤ (sending_of_event e).end) × (d ≢ e)) (Heard x) es order) early in
    omega (arith, rest)
few_early k zero far (Ended x ∷ es) order early =
    let none = none_by k (Ended x ∷ es) (λ e there. after e there) in
    omega (arith, none)
  where
    first : (e : Event) → Contains es e → x.end ≤ (sending_of_event e).end
    first e there = (pairs_head (λ (d e : Event). ((sending_of_event d).end ≤ (sending_of_event e).end) × (d ≢ e)) (Ended x) es order e there).0

    after : (e : Event) → Contains (Ended x ∷ es) e → k < (sending_of_event e).end
    after e there = elim (contains_cases (Ended x) es e there) [
      | inl same ↦ (let ends = ap (λ (d : Event). (sending_of_event d).end) same in omega (arith, ends, early))
      | inr later ↦ (let ends = first e later in omega (arith, ends, early))
    ]
few_early k (suc n) far (Ended x ∷ es) order early =
    let rest = few_early k n far es (pairs_tail (λ (d e : Event). ((sending_of_event d).end ≤ (sending_of_event e).end) × (d ≢ e)) (Ended x) es order) early in
    let one = at_most (nat_le x.end k) in
    omega (arith, rest, one)
  where
    at_most : (b : Bool) → one_if b ≤ 1
    at_most true = omega arith
    at_most false = omega arith

-- where all end later, so does that one
all_later : (k n far : ℕ) (es : List Event) → ((e : Event) → Contains es e → k < (sending_of_event e).end) → k < far → k < get_or (own_ends es) n far
all_later k n far [] later before = before
all_later k n far (Heard x ∷ es) later before = all_later k n far es (λ e there. later e (contains_tail (Heard x) es e there)) before
all_later k zero far (Ended x ∷ es) later before = later (Ended x) (contains_head (Ended x) es)
all_later k (suc n) far (Ended x ∷ es) later before = all_later k n far es (λ e there. later e (contains_tail (Ended x) es e there)) before

pub early_few : (k n far : ℕ) (es : List Event) → Ordered es → k < far → sendings_in k (map happening_of es) ≤ n → k < get_or (own_ends es) n far
early_few k n far [] order before few = before
early_few k n far (Heard x ∷ es) order before few =
    early_few k n far es (pairs_tail (λ (d e : Event). ((sending_of_event d).end ≤ (sending_of_event e).end) × (d ≢ e)) (Heard x) es order) before
    (omega (arith, few))
early_few k zero far (Ended x ∷ es) order before few = of_test (nat_le x.end k) refl
  where
    of_test : (b : Bool) → nat_le x.end k ≡ b → k < x.end
    of_test true is = absurd (let one : one_if (nat_le x.end k) ≡ 1 = ap one_if is in omega (arith, one, few))
    of_test false is = elim (cases_lt k x.end) [ inl less ↦ less | inr late ↦ absurd (true≢false (sym (le-leb x.end k late) ∙ is)) ]
early_few k (suc n) far (Ended x ∷ es) order before few =
    of_test (nat_le x.end k) refl
    (λ fewer. early_few k n far es (pairs_tail (λ (d e : Event). ((sending_of_event d).end ≤ (sending_of_event e).end) × (d ≢ e)) (Ended x) es order) before
    fewer)
  where
    of_test : (b : Bool) → nat_le x.end k ≡ b → (sendings_in k (map happening_of es) ≤ n → k < get_or (own_ends es) n far) → k < get_or (own_ends es) n far
    of_test true is rest = rest (let one : one_if (nat_le x.end k) ≡ 1 = ap one_if is in omega (arith, one, few))
    of_test false is rest =
        let late : k < x.end = elim (cases_lt k x.end) [ inl less ↦ less | inr early ↦ absurd (true≢false (sym (le-leb x.end k early) ∙ is)) ] in
        all_later k n far es
        (λ e there. (let ends = (pairs_head (λ (d e : Event). ((sending_of_event d).end ≤ (sending_of_event e).end) × (d ≢ e)) (Ended x) es order e there).0 in
        omega (arith, ends, late))) before
