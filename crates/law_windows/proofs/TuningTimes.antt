-- How long tunings last between two ticks, tick by tick.
use Rattle.std.proofs.Common.{◌≡◌, ℕ, zero, suc, ◌+◌, ◌-◌, ◌*◌, ◌<◌, ◌≤◌, ◌⊎◌, inl, inr, List, [], ◌∷◌, Contains, AllPairs, sum_by, refl, sym, ◌∙◌}
use Rattle.std.proofs.Common.{ap, subst, arith}
use Rattle.std.proofs.lemmas.Bool.{cases_lt}
use Rattle.std.proofs.lemmas.List.Sums.{sum_by-cons}
use Rattle.radio_model.specs.OnAir.{Tuning}
use Rattle.lwb_base.proofs.Elements.{not_in_none, contains_head, contains_tail, contains_cases, pairs_head, pairs_tail}
use Rattle.air_log.specs.TrailEntries.{FollowsOn}
use Rattle.law_windows.specs.RadioTimes.{time_within}

-- all of them
abbrev pub within : ℕ → ℕ → List Tuning → ℕ
within from until ts = sum_by (time_within from until) ts

-- ---- of two times that meet

one_splits : (a b c : ℕ) (t : Tuning) → a ≤ b → b ≤ c → time_within a c t ≡ time_within a b t + time_within b c t
one_splits a b c t low high = omega arith

splits : (a b c : ℕ) (ts : List Tuning) → a ≤ b → b ≤ c → within a c ts ≡ within a b ts + within b c ts
splits a b c [] low high = refl
splits a b c (t ∷ ts) low high =
    let whole = sum_by-cons (time_within a c) t ts in
    let first = sum_by-cons (time_within a b) t ts in
    let second = sum_by-cons (time_within b c) t ts in
    let one = one_splits a b c t low high in
    let rest = splits a b c ts low high in
    omega (arith, whole, first, second, one, rest)

none_between : (a : ℕ) (ts : List Tuning) → within a a ts ≡ 0
none_between a [] = refl
none_between a (t ∷ ts) =
    let whole = sum_by-cons (time_within a a) t ts in
    let one : time_within a a t ≡ 0 = omega arith in
    let rest = none_between a ts in
    omega (arith, whole, one, rest)

-- the same number at each tick
each_tick : (e a n : ℕ) (ts : List Tuning) → ((k : ℕ) → a ≤ k → k < a + n → within k (suc k) ts ≡ e) → within a (a + n) ts ≡ n * e
each_tick e a zero ts at =
    let none = none_between a ts in
    let same : within a (a + zero) ts ≡ within a a ts = ap (λ (u : ℕ). within a u ts) (omega arith) in
    omega (arith, none, same)
each_tick e a (suc n) ts at =
    let before = each_tick e a n ts (λ k from until. at k from (omega (arith, until))) in
    let last = at (a + n) (omega arith) (omega arith) in
    let parts = splits a (a + n) (suc (a + n)) ts (omega arith) (omega arith) in
    let same : within a (a + suc n) ts ≡ within a (suc (a + n)) ts = ap (λ (u : ℕ). within a u ts) (omega arith) in
    omega (arith, before, last, parts, same)

pub all_ticks : (e a b : ℕ) (ts : List Tuning) → a ≤ b → ((k : ℕ) → a ≤ k → k < b → within k (suc k) ts ≡ e) → within a b ts ≡ (b - a) * e
all_ticks e a b ts order at =
    let same : within a (a + (b - a)) ts ≡ within a b ts = ap (λ (u : ℕ). within a u ts) (omega arith) in
    sym same ∙ each_tick e a (b - a) ts (λ k from until. at k from (omega (arith, until, order)))

-- the first part of a time throughout, and the rest not at all
pub on_then_off : (a b c : ℕ) (ts : List Tuning) → a ≤ b → b ≤ c → ((k : ℕ) → a ≤ k → k < b → within k (suc k) ts ≡ 1)
    → ((k : ℕ) → b ≤ k → k < c → within k (suc k) ts ≡ 0) → within a c ts + a ≡ b
on_then_off a b c ts low high on off =
    let parts = splits a b c ts low high in
    let first = all_ticks 1 a b ts low on in
    let second = all_ticks 0 b c ts high off in
    omega (arith, parts, first, second)

-- ---- at one tick

none_here : (k : ℕ) (t : Tuning) → (t.end ≤ k) ⊎ (k < t.start) → time_within k (suc k) t ≡ 0
none_here k t (inl past) = omega arith
none_here k t (inr later) = omega arith

pub none_at : (k : ℕ) (ts : List Tuning) → ((t : Tuning) → Contains ts t → (t.end ≤ k) ⊎ (k < t.start)) → within k (suc k) ts ≡ 0
none_at k [] apart = refl
none_at k (t ∷ ts) apart =
    let whole = sum_by-cons (time_within k (suc k)) t ts in
    let one = none_here k t (apart t (contains_head t ts)) in
    let rest = none_at k ts (λ u there. apart u (contains_tail t ts u there)) in
    omega (arith, whole, one, rest)

some_at : (k : ℕ) (ts : List Tuning) (t : Tuning) → Contains ts t → t.start ≤ k → k < t.end → 1 ≤ within k (suc k) ts
some_at k [] t there from until = absurd (not_in_none t there)
some_at k (u ∷ ts) t there from until =
    let whole = sum_by-cons (time_within k (suc k)) u ts in
    elim (contains_cases u ts t there) [
      | inl same ↦ (
          let one : 1 ≤ time_within k (suc k) u = subst (λ (x : Tuning). 1 ≤ time_within k (suc k) x) (sym same) (omega (arith, from, until)) in
          omega (arith, whole, one)
          )
      | inr later ↦ (let rest = some_at k ts t later from until in omega (arith, whole, rest))
    ]

-- tunings that follow one another, the last first
one_at_most : (k : ℕ) (ts : List Tuning) → AllPairs FollowsOn ts → within k (suc k) ts ≤ 1
one_at_most k [] turn = omega arith
one_at_most k (t ∷ ts) turn =
    let whole = sum_by-cons (time_within k (suc k)) t ts in
    elim (cases_lt k t.start) [
      | inl before ↦ (
          let none = none_here k t (inr before) in
          let rest = one_at_most k ts (pairs_tail FollowsOn t ts turn) in
          omega (arith, whole, none, rest)
          )
      | inr since ↦ (
          let one : time_within k (suc k) t ≤ 1 = omega arith in
          let rest = none_at k ts (λ u there. (let after = (pairs_head FollowsOn t ts turn u there).after in inl (omega (arith, after, since)))) in
          omega (arith, whole, one, rest)
          )
    ]

pub one_at : (k : ℕ) (ts : List Tuning) (t : Tuning) → AllPairs FollowsOn ts → Contains ts t → t.start ≤ k → k < t.end → within k (suc k) ts ≡ 1
one_at k ts t turn there from until =
    let some = some_at k ts t there from until in
    let most = one_at_most k ts turn in
    omega (arith, some, most)
