-- Owners in ascending order, one after another.
use Rattle.std.proofs.Common.{◌≡◌, ℕ, zero, suc, ◌-◌, ◌<◌, ◌≤◌, List, [], ◌∷◌, true, false, nat_le, nat_lt}
use Rattle.std.proofs.Common.{Bool, subst, length, take, get_or, refl, ◌∙◌, ap, arith}
use Rattle.std.proofs.lemmas.Bool.{le-leb, lt-ltb, ltb-false, and_from}
use Rattle.std.proofs.lemmas.List.{length-take}
use Rattle.std.specs.List.{slice_get}
use Rattle.std.specs.Ordering.{nat_cmp, is_lt}
use Rattle.std.specs.Cmp.{IsStrictWeakOrder}
use Rattle.std.specs.List.Sorted.{IsSorted, IsSortedBy, IsStable, IsStableBy}
use Rattle.std.proofs.Math.Path.{fun_ext}
use Rattle.std.proofs.lemmas.Bool.Decides.{nat_tests}
use Rattle.std.proofs.lemmas.List.Sorted.{IsStrictWeakOrder-by_number}
use Rattle.lwb_base.specs.Sorting.{in_order}
use Rattle.lwb_base.proofs.Lists.{each_more}
use Rattle.lwb_base.proofs.StableSorts.{Rises, rises, sorted_by_insertion}
use Rattle.schedule_codec.specs.OwnerLists.{takes_owner, may_follow}
use Rattle.deadline_plan.specs.Sorting.{IsOrdered}

-- what a sort of numbers leaves
same_order : (λ (x y : ℕ). is_lt (nat_cmp x y)) ≡ nat_lt
same_order = fun_ext (λ x. fun_ext (λ y. by_tests x y))
  where
    by_tests : (x y : ℕ) → is_lt (nat_cmp x y) ≡ nat_lt x y
    by_tests x y = grind (arith, nat_tests)

number_order : IsStrictWeakOrder nat_lt
number_order = IsStrictWeakOrder-by_number (λ (x : ℕ). x)

from_rises : (xs : List ℕ) → Rises nat_lt xs → IsOrdered nat_le xs
from_rises [] is = tt
from_rises (x ∷ xs) is = (each_more (λ y. nat_lt y x ≡ false) (λ y. nat_le x y ≡ true) (λ y not. le-leb x y (ltb-false y x not)) xs is.0, from_rises xs is.1)

pub ordered_by_sort : (xs : List ℕ) → IsSorted nat_cmp xs → IsOrdered nat_le xs
ordered_by_sort xs sorted = from_rises xs (rises nat_lt number_order xs (subst (λ (lt : ℕ → ℕ → Bool). IsSortedBy lt xs) same_order sorted))

pub numbers_in_order : (xs ys : List ℕ) → IsSorted nat_cmp ys → IsStable nat_cmp xs ys → ys ≡ in_order nat_lt xs
numbers_in_order xs ys sorted stable =
    sorted_by_insertion nat_lt number_order xs ys (subst (λ (lt : ℕ → ℕ → Bool). IsSortedBy lt ys) same_order sorted)
    (subst (λ (lt : ℕ → ℕ → Bool). IsStableBy lt xs ys) same_order stable)

follows : (xs : List ℕ) (i c d : ℕ) → IsOrdered nat_le xs → i < length xs → c ≡ get_or xs i d
    → may_follow (slice_get (take i xs) (length (take i xs) - 1)) c ≡ true
follows [] i c d ordered below is = absurd (omega arith)
follows (x ∷ xs) zero c d ordered below is = refl
follows (x ∷ []) (suc zero) c d ordered below is = absurd (omega arith)
follows (x ∷ y ∷ ys) (suc zero) c d ordered below is = ap (λ (n : ℕ). nat_le x n) is ∙ ordered.0.0
follows (x ∷ xs) (suc (suc k)) c d ordered below is =
    let n : ℕ = length (take (suc k) xs) in
    let some : n ≡ suc k = omega (arith, length-take (suc k) xs) in
    let last : suc n - 1 ≡ suc (n - 1) = omega arith in
    ap (λ (m : ℕ). may_follow (slice_get (x ∷ take (suc k) xs) m) c) last ∙ follows xs (suc k) c d ordered.1 (omega arith) is

pub takes : (xs : List ℕ) (i c d : ℕ) → IsOrdered nat_le xs → length xs ≤ 40 → i < length xs → c ≡ get_or xs i d → takes_owner (take i xs) c ≡ true
takes xs i c d ordered few below is = and_from (nat_lt (length (take i xs)) 40) _ (lt-ltb _ _ (omega (arith, length-take i xs)))
    (follows xs i c d ordered below is)
