-- How many elements pass a test.
use Rattle.std.proofs.Common.{◌≡◌, ℕ, ◌+◌, ◌≤◌, List, [], ◌∷◌, ◌++◌, Bool, false, cond, count_by, refl, arith, ap}
use Rattle.std.proofs.lemmas.List.Sums.{sum_by-cons, sum_by-append}
use Rattle.std.specs.List.{AllByRecursion}
use Rattle.std.specs.List.Sorted.{IsPermutation}
use Rattle.std.proofs.lemmas.List.Sorted.{sum_by-IsPermutation}

abbrev pub one : Bool → ℕ
one b = cond b 1 0

pub count_cons : {X : Type 0} (p : X → Bool) (x : X) (xs : List X) → count_by p (x ∷ xs) ≡ one (p x) + count_by p xs
count_cons p x xs = sum_by-cons (λ (y : _). one (p y)) x xs

pub count_append : {X : Type 0} (p : X → Bool) (xs ys : List X) → count_by p (xs ++ ys) ≡ count_by p xs + count_by p ys
count_append p xs ys = sum_by-append (λ (y : _). one (p y)) xs ys

pub count_none : {X : Type 0} (p : X → Bool) (xs : List X) → AllByRecursion (λ x. p x ≡ false) xs → count_by p xs ≡ 0
count_none p [] all = refl
count_none p (x ∷ xs) all =
    let none : one (p x) ≡ 0 = ap one all.0 in
    omega (arith, count_cons p x xs, count_none p xs all.1, none)

-- where each that passes p passes q or r
pub count_either : {X : Type 0} (p q r : X → Bool) → ((x : X) → one (p x) ≤ one (q x) + one (r x)) → (xs : List X)
    → count_by p xs ≤ count_by q xs + count_by r xs
count_either p q r each [] = omega arith
count_either p q r each (x ∷ xs) = omega (arith, count_cons p x xs, count_cons q x xs, count_cons r x xs, each x, count_either p q r each xs)

pub count_split : {X : Type 0} (p q r : X → Bool) → ((x : X) → one (p x) ≡ one (q x) + one (r x)) → (xs : List X)
    → count_by p xs ≡ count_by q xs + count_by r xs
count_split p q r each [] = refl
count_split p q r each (x ∷ xs) = omega (arith, count_cons p x xs, count_cons q x xs, count_cons r x xs, each x, count_split p q r each xs)

-- where each of the elements that passes p passes q
pub count_most : {X : Type 0} (P : X → Type 0) (p q : X → Bool) → ((x : X) → P x → one (p x) ≤ one (q x)) → (xs : List X) → AllByRecursion P xs
    → count_by p xs ≤ count_by q xs
count_most P p q each [] all = omega arith
count_most P p q each (x ∷ xs) all = omega (arith, count_cons p x xs, count_cons q x xs, each x all.0, count_most P p q each xs all.1)

pub count_same : {X : Type 0} (P : X → Type 0) (p q : X → Bool) → ((x : X) → P x → p x ≡ q x) → (xs : List X) → AllByRecursion P xs
    → count_by p xs ≡ count_by q xs
count_same P p q each [] all = refl
count_same P p q each (x ∷ xs) all =
    let here : one (p x) ≡ one (q x) = ap one (each x all.0) in
    omega (arith, count_cons p x xs, count_cons q x xs, here, count_same P p q each xs all.1)

-- in another order
pub count_moved : {X : Type 0} (p : X → Bool) (xs ys : List X) → IsPermutation xs ys → count_by p ys ≡ count_by p xs
count_moved p xs ys moved = sum_by-IsPermutation (λ (x : _). one (p x)) xs ys moved
