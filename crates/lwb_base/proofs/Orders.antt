-- Numbers in order: how they compare, alone and three or four of them one after another, and when two are the same.
use Rattle.std.proofs.Common.{◌≡◌, ℕ, suc, ◌*◌, ◌<◌, ◌≤◌, ◌==◌, Bool, true, false, List, length, get_or, AllPairs, inl, inr}
use Rattle.std.proofs.Common.{Ordering, Less, Equal, Greater, refl, sym, ◌∙◌, arith}
use Rattle.std.proofs.lemmas.Bool.{cases_lt, cases_order, eq-eqb, eqb-true, eqb-false, ne_eqb}
use Rattle.std.proofs.lemmas.Bool.Decides.{nat_tests}
use Rattle.std.proofs.Math.Nat.{mul-le-mul_right}
use Rattle.std.proofs.lemmas.List.Sorted.{IsPermutation-refl}
use Rattle.std.specs.Cmp.{IsTotalOrder, nat_cmp_is, nat_cmp_total, on_total, then_total}
use Rattle.std.specs.List.Sorted.{IsPermutation}
use Rattle.std.specs.Ordering.{nat_cmp, ordering_then, ordering_index, is_lt}

pub compares_less : (x y : ℕ) → x < y → nat_cmp x y ≡ Less
compares_less x y less = sym (nat_cmp_is x y Less less)

pub compares_equal : (x y : ℕ) → x ≡ y → nat_cmp x y ≡ Equal
compares_equal x y same = sym (nat_cmp_is x y Equal same)

-- what a comparison says
pub same_number : (x y : ℕ) → nat_cmp x y ≡ Equal → x ≡ y
same_number x y is = grind (arith, nat_tests)

pub not_less : (x y : ℕ) → x ≡ y → nat_cmp x y ≡ Less → ⊥
not_less x y same is = grind (arith, nat_tests)

pub not_greater : (x y : ℕ) → x ≡ y → nat_cmp x y ≡ Greater → ⊥
not_greater x y same is = grind (arith, nat_tests)

pub compares_higher : (x y z : ℕ) → x ≤ y → ordering_index (nat_cmp x z) ≤ ordering_index (nat_cmp y z)
compares_higher x y z le = grind (arith, nat_tests)

pub not_below : (x y : ℕ) → (x < y → ⊥) → y ≤ x
not_below x y never = elim (cases_lt x y) [ inl less ↦ absurd (never less) | inr by ↦ by ]

-- two numbers, neither below the other
pub one_number : (x y : ℕ) → (x < y → ⊥) → (y < x → ⊥) → x ≡ y
one_number x y up down = elim (cases_order x y) [ inl same ↦ same | inr (inl less) ↦ absurd (up less) | inr (inr more) ↦ absurd (down more) ]

-- two numbers with one product
pub same_factor : (a b m : ℕ) → 1 ≤ m → a * m ≡ b * m → a ≡ b
same_factor a b m some same = elim (cases_order a b) [
  | inl is ↦ is
  | inr (inl less) ↦ (let more : suc a * m ≤ b * m = mul-le-mul_right m less in absurd (omega (arith, more, same, some)))
  | inr (inr less) ↦ (let more : suc b * m ≤ a * m = mul-le-mul_right m less in absurd (omega (arith, more, same, some)))
]

pub equal_turned : (a b : ℕ) → (a == b) ≡ (b == a)
equal_turned a b = by_test (a == b) refl
  where
    by_test : (c : Bool) → (a == b) ≡ c → (a == b) ≡ (b == a)
    by_test true is = is ∙ sym (eq-eqb b a (sym (eqb-true a b is)))
    by_test false is = is ∙ sym (ne_eqb b a (λ same. eqb-false a b is (sym same)))

pub rising : (ns : List ℕ) → AllPairs (λ a b. a < b) ns → (i j : ℕ) → i ≤ j → j < length ns → get_or ns i 0 ≤ get_or ns j 0
rising ns ascending i j le inside = elim (cases_lt i j) [
  | inl before ↦ omega (arith, ascending i j 0 before inside)
  | inr not_before ↦ let same : i ≡ j = omega arith in rw same (omega arith)
]

-- several numbers one after another
abbrev pub by_two : ℕ × ℕ → ℕ × ℕ → Ordering
by_two a b = ordering_then (nat_cmp a.0 b.0) (nat_cmp a.1 b.1)

pub by_two_total : IsTotalOrder by_two
by_two_total = then_total (on_total (λ (t : ℕ × ℕ). t.0) nat_cmp_total) (on_total (λ (t : ℕ × ℕ). t.1) nat_cmp_total)

pub by_first : (m n p q : ℕ) → m < n → is_lt (ordering_then (nat_cmp m n) (nat_cmp p q)) ≡ true
by_first m n p q less = grind (arith, nat_tests)

pub by_second : (m n p q : ℕ) → m ≡ n → p < q → is_lt (ordering_then (nat_cmp m n) (nat_cmp p q)) ≡ true
by_second m n p q same less = grind (arith, nat_tests)

abbrev pub by_three : ℕ × ℕ × ℕ → ℕ × ℕ × ℕ → Ordering
by_three a b = ordering_then (ordering_then (nat_cmp a.0 b.0) (nat_cmp a.1 b.1)) (nat_cmp a.2 b.2)

pub by_three_total : IsTotalOrder by_three
by_three_total = then_total (then_total (on_total (λ (t : ℕ × ℕ × ℕ). t.0) nat_cmp_total) (on_total (λ (t : ℕ × ℕ × ℕ). t.1) nat_cmp_total))
    (on_total (λ (t : ℕ × ℕ × ℕ). t.2) nat_cmp_total)

abbrev pub by_four : ℕ × ℕ × ℕ × ℕ → ℕ × ℕ × ℕ × ℕ → Ordering
by_four a b = ordering_then (ordering_then (ordering_then (nat_cmp a.0 b.0) (nat_cmp a.1 b.1)) (nat_cmp a.2 b.2)) (nat_cmp a.3 b.3)

pub by_four_total : IsTotalOrder by_four
by_four_total = then_total (then_total (then_total (on_total (λ (t : ℕ × ℕ × ℕ × ℕ). t.0) nat_cmp_total) (on_total (λ (t : ℕ × ℕ × ℕ × ℕ). t.1) nat_cmp_total))
    (on_total (λ (t : ℕ × ℕ × ℕ × ℕ). t.2) nat_cmp_total)) (on_total (λ (t : ℕ × ℕ × ℕ × ℕ). t.3) nat_cmp_total)

-- lists that are one list
pub same_list : {X : Type 0} (xs ys zs : List X) → xs ≡ zs → ys ≡ zs → IsPermutation xs ys
same_list xs ys zs a b = rw (a, b) (IsPermutation-refl zs)
