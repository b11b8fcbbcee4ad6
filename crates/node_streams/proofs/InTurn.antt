-- One element after another of a list, and the least of four.
use Rattle.std.proofs.Common.{◌≡◌, ℕ, zero, suc, ◌+◌, ◌<◌, List, [], ◌∷◌, ◌++◌, Bool, true, false, length, get_or, take}
use Rattle.std.proofs.Common.{drop, set, map, replicate, fold, Some, IsSome, refl, sym, ◌∙◌, ap, subst, arith}
use Rattle.std.specs.List.{find, list_all, slice_get}
use Rattle.std.proofs.lemmas.List.{set_at, drop_more, replicate_more, append_assoc, length-replicate}
use Rattle.std.proofs.lemmas.List.Edits.{map_over_more}
use Rattle.std.proofs.lemmas.List.Sums.{fold_more, AllPass-from_list_all}
use Rattle.std.proofs.lemmas.Option.{get_or_from_slice_get, slice_get_within}

pub least_found : (p : ℕ → Bool) (i : ℕ) → i < 4 → ((k : ℕ) → k < i → p k ≡ false) → p i ≡ true → find p (0 ∷ 1 ∷ 2 ∷ 3 ∷ []) ≡ Some i
least_found p zero below before here = rw here refl
least_found p (suc zero) below before here = rw (before 0 (omega arith), here) refl
least_found p (suc (suc zero)) below before here = rw (before 0 (omega arith), before 1 (omega arith), here) refl
least_found p (suc (suc (suc zero))) below before here = rw (before 0 (omega arith), before 1 (omega arith), before 2 (omega arith), here) refl
least_found p (suc (suc (suc (suc n)))) below before here = absurd (omega arith)

-- a place below the length holds something
pub some_at : {X : Type 0} (xs : List X) (i : ℕ) → i < length xs → IsSome (slice_get xs i)
some_at [] i within = absurd (omega arith)
some_at (x ∷ xs) zero within = refl
some_at (x ∷ xs) (suc i) within = some_at xs i (omega arith)

-- what is found at a place passes what all pass
pub passes_at : {X : Type 0} (p : X → Bool) (xs : List X) (i : ℕ) (x : X) → list_all p xs ≡ true → slice_get xs i ≡ Some x → p x ≡ true
passes_at p xs i x all at =
    subst (λ (y : _). p y ≡ true) (get_or_from_slice_get xs i x x at) (AllPass-from_list_all p xs all i x (slice_get_within xs i x at))

-- a fold over one element more
pub fold_step : {X Y : Type 0} (f : Y → X → Y) (a : Y) (xs : List X) (i : ℕ) (x : X) (y z : Y) → slice_get xs i ≡ Some x → y ≡ fold f a (take i xs) → z ≡ f y x
    → z ≡ fold f a (take (i + 1) xs)
fold_step f a xs i x y z at before now =
    now ∙ ap (λ (w : _). f w x) before ∙ ap (λ (w : _). f (fold f a (take i xs)) w) (sym (get_or_from_slice_get xs i x x at))
    ∙ sym (fold_more f a xs i x (slice_get_within xs i x at))

-- each element in its place by a function of it
pub map_step : {X : Type 0} (f : X → X) (xs ys : List X) (i : ℕ) (x y : X) → i < length xs → ys ≡ map f (take i xs) ++ drop i xs → x ≡ get_or ys i x
    → y ≡ f (get_or ys i x)
    → set ys i y ≡ map f (take (i + 1) xs) ++ drop (i + 1) xs
map_step f xs ys i x y within is at now =
    ap (set ys i) (now ∙ ap f (sym at)) ∙ map_over_more f xs ys i x within is at

-- each element in its place by the same
pub fill_step : {X : Type 0} (v : X) (xs ys : List X) (i : ℕ) (x y : X) → i < length xs → ys ≡ replicate i v ++ drop i xs → y ≡ v
    → set ys i y ≡ replicate (i + 1) v ++ drop (i + 1) xs
fill_step v xs ys i x y within is now =
    ap (set ys i) now ∙ ap (λ (l : List _). set l i v) (is ∙ ap (λ (l : List _). replicate i v ++ l) (drop_more xs i x within))
    ∙ set_at (replicate i v) (get_or xs i x) (drop (i + 1) xs) v i (length-replicate i v)
    ∙ sym (append_assoc (replicate i v) (v ∷ []) (drop (i + 1) xs))
    ∙ ap (λ (l : List _). l ++ drop (i + 1) xs) (replicate_more i v)
