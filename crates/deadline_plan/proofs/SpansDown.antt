-- Sums that grow towards the first frame.
use Rattle.std.proofs.Common.{◌≡◌, ℕ, suc, ◌+◌, ◌-◌, ◌*◌, ◌<◌, ◌≤◌, List, get_or, ◌∙◌, ap, arith}
use Rattle.deadline_plan.specs.Load.{sum_from}

pub span_none : (ns : List ℕ) (until : ℕ) → sum_from ns until (until - until) ≡ 0
unfolding sum_from
span_none ns until = let none : until - until ≡ 0 = omega arith in ap (λ (n : ℕ). sum_from ns until n) none

pub span_more : (ns : List ℕ) (from until : ℕ) → 0 < from → from ≤ until
    → sum_from ns (from - 1) (until - (from - 1)) ≡ get_or ns (from - 1) 0 + sum_from ns from
    (until - from)
unfolding sum_from
span_more ns from until some order =
    let longer : until - (from - 1) ≡ suc (until - from) = omega arith in
    let back : from - 1 + 1 ≡ from = omega arith in
    let first : sum_from ns (from - 1) (until - (from - 1)) ≡ sum_from ns (from - 1) (suc (until - from)) = ap (λ (n : ℕ). sum_from ns (from - 1) n) longer in
    first ∙ ap (λ (x : ℕ). get_or ns (from - 1) 0 + sum_from ns x (until - from)) back

pub product_none : (s until : ℕ) → s * (until - until) ≡ 0
product_none s until = let none : s * (until - until) ≡ s * 0 = ap (λ (n : ℕ). s * n) (omega arith) in omega (arith, none)

pub product_more : (s from until : ℕ) → 0 < from → from ≤ until → s * (until - (from - 1)) ≡ s * (until - from) + s
product_more s from until some order =
    let more : s * (until - (from - 1)) ≡ s * suc (until - from) = ap (λ (n : ℕ). s * n) (omega arith) in omega (arith, more)
