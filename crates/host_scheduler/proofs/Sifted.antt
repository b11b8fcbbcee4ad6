-- Lists that are cut, sifted and joined.
use Rattle.std.proofs.Common.{◌≡◌, ℕ, zero, suc, ◌+◌, ◌<◌, ◌≤◌, List, [], ◌∷◌, ◌++◌, Bool, true, false, ◌&&◌, cond}
use Rattle.std.proofs.Common.{if◌then◌else◌, length, get_or, take, filter, refl, sym, ◌∙◌, ap, arith, append_assoc}
use Rattle.std.proofs.lemmas.List.Elements.{filter_more}

-- what is cut off the front list cannot come back
pub take_joined : {X : Type 0} (n : ℕ) (xs ys : List X) → take n (take n xs ++ ys) ≡ take n (xs ++ ys)
take_joined zero xs ys = refl
take_joined (suc n) [] ys = refl
take_joined (suc n) (x ∷ xs) ys = ap (λ (l : List _). x ∷ l) (take_joined n xs ys)

pub filter_filter : {X : Type 0} (p q : X → Bool) (xs : List X) → filter q (filter p xs) ≡ filter (λ x. p x && q x) xs
filter_filter p q [] = refl
filter_filter p q (x ∷ xs) = by_test (p x) (filter_filter p q xs)
  where
    by_test : (b : Bool) → filter q (filter p xs) ≡ filter (λ y. p y && q y) xs → filter q (cond b (x ∷ filter p xs) (filter p xs))
        ≡ cond (b && q x) (x ∷ filter (λ y. p y && q y) xs) (filter (λ y. p y && q y) xs)
    by_test true rest = ap (λ (l : List _). cond (q x) (x ∷ l) l) rest
    by_test false rest = rest

-- what passes a second test passes the first
pub filter_stronger : {X : Type 0} (p q : X → Bool) (xs : List X) → ((x : X) → q x ≡ true → p x ≡ true) → filter q (filter p xs) ≡ filter q xs
filter_stronger p q [] above = refl
filter_stronger p q (x ∷ xs) above = by_tests (p x) (q x) refl refl (filter_stronger p q xs above)
  where
    by_tests : (b d : Bool) → p x ≡ b → q x ≡ d → filter q (filter p xs) ≡ filter q xs
        → filter q (cond b (x ∷ filter p xs) (filter p xs)) ≡ cond d (x ∷ filter q xs) (filter q xs)
    by_tests true d is this rest = ap (λ (l : List _). cond (q x) (x ∷ l) l) rest ∙ ap (λ (b : Bool). cond b (x ∷ filter q xs) (filter q xs)) this
    by_tests false true is this rest = let both = above x this in cc (is, both)
    by_tests false false is this rest = rest

one_more : {X : Type 0} (b d : Bool) (x : X) (xs ys : List X) (n : ℕ) → (b && d) ≡ false → length xs + length ys ≤ n
    → length (cond b (x ∷ xs) xs) + length (cond d (x ∷ ys) ys) ≤ n + 1
one_more true true x xs ys n apart few = cc
one_more true false x xs ys n apart few = omega arith
one_more false true x xs ys n apart few = omega arith
one_more false false x xs ys n apart few = omega arith

-- two tests that exclude each other pass no more than there are
pub both_fit : {X : Type 0} (p q : X → Bool) (xs : List X) → ((x : X) → (p x && q x) ≡ false) → length (filter p xs) + length (filter q xs) ≤ length xs
both_fit p q [] apart = omega arith
both_fit p q (x ∷ xs) apart = omega (arith, one_more (p x) (q x) x (filter p xs) (filter q xs) (length xs) (apart x) (both_fit p q xs apart))

-- a loop's step: what passes is pushed
pub sifted : {X : Type 0} (p : X → Bool) (xs : List X) (i : ℕ) (x : X) (old new before : List X) (b : Bool) → i < length xs
    → x ≡ get_or xs i x → b ≡ p x → old ≡ before ++ filter p (take i xs)
    → new ≡ old ++ (if b then x ∷ [] else []) → new ≡ before ++ filter p (take (i + 1) xs)
sifted p xs i x old new before b within read test is now =
    now ∙ ap (λ (l : List _). l ++ (if b then x ∷ [] else [])) is
    ∙ ap (λ (d : Bool). (before ++ filter p (take i xs)) ++ (if d then x ∷ [] else [])) test
    ∙ append_assoc before (filter p (take i xs)) (if p x then x ∷ [] else [])
    ∙ ap (λ (l : List _). before ++ l) (ap (λ (y : _). filter p (take i xs) ++ (if p y then y ∷ [] else [])) read ∙ sym (filter_more p xs i x within))
