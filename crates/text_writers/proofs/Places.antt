-- Lists with the place of each element.
use Rattle.std.proofs.Common.{◌≡◌, ℕ, ◌+◌, ◌<◌, List, [], ◌∷◌, ◌++◌, length, take, get_or, flat_map, add-zero, refl, sym, ◌∙◌, ap, arith}
use Rattle.std.specs.List.{enumerate_from}
use Rattle.std.proofs.lemmas.List.{take_more, append-nil, length-take-le}
use Rattle.std.proofs.lemmas.List.Concat.{flat_map-append}

-- an element more
one_more : {X : Type 0} (n : ℕ) (xs : List X) (x : X) → enumerate_from n (xs ++ x ∷ []) ≡ enumerate_from n xs ++ (n + length xs, x) ∷ []
one_more n [] x = rw add-zero refl
one_more {X} n (y ∷ xs) x =
    ap (λ (l : List (ℕ × X)). (n, y) ∷ l) (one_more (n + 1) xs x ∙ ap (λ (m : ℕ). enumerate_from (n + 1) xs ++ (m, x) ∷ []) (omega arith))

pub place_more : {X : Type 0} (f : ℕ × X → List ℕ) (i : ℕ) (xs : List X) (x : X) → i < length xs → x ≡ get_or xs i x
    → flat_map f (enumerate_from 0 (take (i + 1) xs)) ≡ flat_map f (enumerate_from 0 (take i xs)) ++ f (i, x)
place_more {X} f i xs x below at =
    let more : take (i + 1) xs ≡ take i xs ++ x ∷ [] = take_more xs i x below ∙ ap (λ (y : X). take i xs ++ y ∷ []) (sym at) in
    let size : length (take i xs) ≡ i = length-take-le i xs (omega arith) in
    ap (λ (l : List X). flat_map f (enumerate_from 0 l)) more
    ∙ ap (λ (l : List (ℕ × X)). flat_map f l) (one_more 0 (take i xs) x ∙ ap (λ (m : ℕ). enumerate_from 0 (take i xs) ++ (m, x) ∷ []) (omega (arith, size)))
    ∙ flat_map-append f (enumerate_from 0 (take i xs)) ((i, x) ∷ [])
    ∙ ap (λ (l : List ℕ). flat_map f (enumerate_from 0 (take i xs)) ++ l) (append-nil (f (i, x)))

-- the places left out
pub without_places : {X : Type 0} (f : X → List ℕ) (n : ℕ) (xs : List X) → flat_map (λ (p : ℕ × X). f p.1) (enumerate_from n xs) ≡ flat_map f xs
without_places f n [] = refl
without_places f n (x ∷ xs) = ap (λ (l : List ℕ). f x ++ l) (without_places f (n + 1) xs)
