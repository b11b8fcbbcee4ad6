-- Lists after a change of one place, a map, a filter, or with another after them.
use Rattle.std.proofs.Common.{◌≡◌, ◌≢◌, ℕ, zero, suc, ◌+◌, ◌<◌, ◌≤◌, List, [], ◌∷◌, ◌++◌, Bool, true, false, cond, Option, Some, None}
use Rattle.std.proofs.Common.{length, map, set, take, get_or, filter, filter_map, option_to_list, count_by, refl, sym, ◌∙◌, ap, arith, add-one}
use Rattle.std.proofs.lemmas.List.{take_more}
use Rattle.std.proofs.lemmas.List.Elements.{filter_map-append}
use Rattle.std.proofs.lemmas.List.Sums.{sum_by_push}
use Rattle.std.specs.List.{AllByRecursion, cons_option, range_with_len, slice_get}

-- one place is changed
pub set_elsewhere : {X : Type 0} (xs : List X) (i j : ℕ) (y : X) → j ≢ i → slice_get (set xs i y) j ≡ slice_get xs j
set_elsewhere [] i j y other = refl
set_elsewhere (x ∷ xs) zero zero y other = absurd (other refl)
set_elsewhere (x ∷ xs) zero (suc j) y other = refl
set_elsewhere (x ∷ xs) (suc i) zero y other = refl
set_elsewhere (x ∷ xs) (suc i) (suc j) y other = set_elsewhere xs i j y (λ same. other (ap (λ (n : ℕ). suc n) same))

pub map_stays : {X Y : Type 0} (f : X → Y) (xs : List X) (i : ℕ) (x y : X) → slice_get xs i ≡ Some x → f y ≡ f x → map f (set xs i y) ≡ map f xs
map_stays f [] i x y at same = refl
map_stays f (z ∷ xs) zero x y at same = let is : z ≡ x = cc in ap (λ (n : _). n ∷ map f xs) (same ∙ sym (ap f is))
map_stays f (z ∷ xs) (suc i) x y at same = ap (λ (l : List _). f z ∷ l) (map_stays f xs i x y at same)

-- what is left of a list by a test, and by a choice
pub filter_map_of : {X Y : Type 0} (f : X → Y) (p : Y → Bool) (xs : List X) → filter p (map f xs) ≡ map f (filter (λ x. p (f x)) xs)
filter_map_of f p [] = refl
filter_map_of f p (x ∷ xs) = by_test (p (f x)) (filter_map_of f p xs)
  where
    by_test : (b : Bool) → filter p (map f xs) ≡ map f (filter (λ y. p (f y)) xs) → cond b (f x ∷ filter p (map f xs)) (filter p (map f xs))
        ≡ map f (cond b (x ∷ filter (λ y. p (f y)) xs) (filter (λ y. p (f y)) xs))
    by_test true rest = ap (λ (l : List _). f x ∷ l) rest
    by_test false rest = rest

pub length_cond : {X : Type 0} (b : Bool) (x : X) (xs ys : List X) → length xs ≤ length ys → length (cond b (x ∷ xs) xs) ≤ length ys + 1
length_cond true x xs ys le = omega arith
length_cond false x xs ys le = omega arith

pub length_filtered : {X : Type 0} (p : X → Bool) (xs : List X) → length (filter p xs) ≤ length xs
length_filtered p [] = omega arith
length_filtered p (x ∷ xs) = omega (arith, length_cond (p x) x (filter p xs) xs (length_filtered p xs))

pub length_option : {X : Type 0} (o : Option X) (xs ys : List X) → length xs ≤ length ys → length (cons_option o xs) ≤ length ys + 1
length_option None xs ys le = omega arith
length_option (Some x) xs ys le = omega arith

pub length_sifted : {X : Type 0} (g : X → Option X) (xs : List X) → length (filter_map g xs) ≤ length xs
length_sifted g [] = omega arith
length_sifted g (x ∷ xs) = omega (arith, length_option (g x) (filter_map g xs) xs (length_sifted g xs))

pub one_kept : {X Y : Type 0} (f : X → Option Y) (x : X) → filter_map f (x ∷ []) ≡ option_to_list (f x)
one_kept {X} {Y} f x = of_one (f x)
  where
    of_one : (o : Option Y) → filter_map (λ (z : Option Y). z) (o ∷ []) ≡ option_to_list o
    of_one None = refl
    of_one (Some y) = refl

pub filter_map_more : {X Y : Type 0} (f : X → Option Y) (xs : List X) (i : ℕ) (x : X) → i < length xs → x ≡ get_or xs i x
    → filter_map f (take (i + 1) xs) ≡ filter_map f (take i xs) ++ option_to_list (f x)
filter_map_more f xs i x below at =
    ap (filter_map f) (take_more xs i x below ∙ ap (λ (y : _). take i xs ++ y ∷ []) (sym at))
    ∙ filter_map-append f (take i xs) (x ∷ [])
    ∙ ap (λ (l : List _). filter_map f (take i xs) ++ l) (one_kept f x)

-- what was chosen so far, with the choice of one element more
pub chosen_more : {X Y : Type 0} (f : X → Option Y) (xs : List X) (i : ℕ) (x : X) (old new : List Y) (o : Option Y) → i < length xs
    → x ≡ get_or xs i x → o ≡ f x → old ≡ filter_map f (take i xs) → new ≡ old ++ option_to_list o → new ≡ filter_map f (take (i + 1) xs)
chosen_more {X} {Y} f xs i x old new o below at is so adds =
    adds ∙ ap (λ (l : List Y). l ++ option_to_list o) so ∙ ap (λ (p : Option Y). filter_map f (take i xs) ++ option_to_list p) is
    ∙ sym (filter_map_more f xs i x below at)

-- the numbers of a range
pub range_more : (a n : ℕ) → range_with_len a (suc n) ≡ range_with_len a n ++ (a + n) ∷ []
range_more a zero = ap (λ (k : ℕ). k ∷ []) (omega arith)
range_more a (suc n) = ap (λ (xs : List ℕ). a ∷ xs) (range_more (a + 1) n ∙ ap (λ (k : ℕ). range_with_len (a + 1) n ++ k ∷ []) (omega arith))

pub range_next : (n : ℕ) → range_with_len 0 (n + 1) ≡ range_with_len 0 n ++ n ∷ []
range_next n = ap (range_with_len 0) (add-one n) ∙ range_more 0 n ∙ ap (λ (k : ℕ). range_with_len 0 n ++ k ∷ []) (omega arith)

-- how many of them pass a test
pub count_next : (p : ℕ → Bool) (n : ℕ) → count_by p (range_with_len 0 (n + 1)) ≡ count_by p (range_with_len 0 n) + cond (p n) 1 0
count_next p n =
    let as_one : ℕ → ℕ = λ k. cond (p k) 1 0 in
    ap (count_by p) (range_next n) ∙ sum_by_push as_one (range_with_len 0 n) n

pub counted_alike : (p q : ℕ → Bool) (n : ℕ) → ((k : ℕ) → k < n → p k ≡ q k) → count_by p (range_with_len 0 n) ≡ count_by q (range_with_len 0 n)
counted_alike p q zero alike = refl
counted_alike p q (suc n) alike =
    let next : suc n ≡ n + 1 = omega arith in
    ap (λ (k : ℕ). count_by p (range_with_len 0 k)) next
    ∙ count_next p n
    ∙ ap (λ (k : ℕ). k + cond (p n) 1 0) (counted_alike p q n (λ k less. alike k (omega (arith, less))))
    ∙ ap (λ (b : Bool). count_by q (range_with_len 0 n) + cond b 1 0) (alike n (omega arith))
    ∙ sym (count_next q n)
    ∙ ap (λ (k : ℕ). count_by q (range_with_len 0 k)) (sym next)

-- what holds of each element
pub each_more : {X : Type 0} (P Q : X → Type 0) → ((x : X) → P x → Q x) → (xs : List X) → AllByRecursion P xs → AllByRecursion Q xs
each_more P Q gives [] is = tt
each_more P Q gives (x ∷ xs) is = (gives x is.0, each_more P Q gives xs is.1)

pub each_append : {X : Type 0} (P : X → Type 0) (xs ys : List X) → AllByRecursion P xs → AllByRecursion P ys → AllByRecursion P (xs ++ ys)
each_append P [] ys first second = second
each_append P (x ∷ xs) ys first second = (first.0, each_append P xs ys first.1 second)
