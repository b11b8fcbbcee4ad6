-- A list that is changed in place, element by element.
use Rattle.std.proofs.Common.{◌≡◌, ◌<◌, ℕ, ◌+◌, List, [], ◌∷◌, ◌++◌, length, map, take, drop, get_or, set, refl, sym, ◌∙◌, ap, arith, add-zero}
use Rattle.std.proofs.lemmas.List.{get_or-map, length-map, take_more, take_more_set, drop-set-lt, get_or-drop}
use Rattle.std.proofs.lemmas.Grind.{drop_more_same}

pub map_more : {X Y : Type 0} (g : X → Y) (xs : List X) (x : X) → map g (xs ++ x ∷ []) ≡ map g xs ++ g x ∷ []
map_more g [] x = refl
map_more g (y ∷ xs) x = ap (λ (l : List _). g y ∷ l) (map_more g xs x)

pub same_place : {X : Type 0} (xs ys : List X) (i : ℕ) (d : X) → drop i xs ≡ drop i ys → get_or xs i d ≡ get_or ys i d
same_place xs ys i d same =
    ap (λ (n : ℕ). get_or xs n d) (sym (add-zero i)) ∙ sym (get_or-drop i xs 0 d) ∙ ap (λ (l : List _). get_or l 0 d) same ∙ get_or-drop i ys 0 d
    ∙ ap (λ (n : ℕ). get_or ys n d) (add-zero i)

-- one element more of a list that was mapped so far
pub one_more_mapped : {X Y : Type 0} (g : X → Y) (olds : List X) (i : ℕ) (n : X) (ys : List Y) (y : Y) → i < length olds → n ≡ get_or olds i n
    → ys ≡ take i (map g olds) → y ≡ g n
    → ys ++ y ∷ [] ≡ take (i + 1) (map g olds)
one_more_mapped g olds i n ys y below at done is =
    ap (λ (l : List _). l ++ y ∷ []) done
    ∙ ap (λ (z : _). take i (map g olds) ++ z ∷ []) (is ∙ ap g at ∙ sym (get_or-map g olds i n y below))
    ∙ sym (take_more (map g olds) i y (omega (arith, below, length-map olds g)))

pub one_more_changed : {X : Type 0} (g : X → X) (olds now : List X) (i : ℕ) (n y : X) → i < length olds → i < length now → n ≡ get_or olds i n
    → take i now ≡ take i (map g olds) → y ≡ g n
    → take (i + 1) (set now i y) ≡ take (i + 1) (map g olds)
one_more_changed g olds now i n y below there at done is = take_more_set now i y there ∙ one_more_mapped g olds i n (take i now) y below at done is

pub rest_unchanged : {X : Type 0} (olds now : List X) (i : ℕ) (y : X) → drop i now ≡ drop i olds → drop (i + 1) (set now i y) ≡ drop (i + 1) olds
rest_unchanged olds now i y same = drop-set-lt (i + 1) now i y (omega arith) ∙ drop_more_same now olds i same
