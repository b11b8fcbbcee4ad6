-- Lists of the elements that pass a test, with one element more to test.
use Rattle.std.proofs.Common.{◌≡◌, ◌∷◌, [], ◌+◌, ◌<◌, ◌++◌, ℕ, List, Bool, true, false, cond, if◌then◌else◌, Option, None, get_or, length, map, take, filter}
use Rattle.std.proofs.Common.{filter_map, refl, sym, ◌∙◌, ap}
use Rattle.std.proofs.lemmas.List.{append_assoc, map_more}
use Rattle.std.proofs.lemmas.List.Elements.{filter-append}
use Rattle.std.specs.List.{cons_option}

-- of one element more
pub kept_more : {X C : Type 0} (keep : C → Bool) (f : X → C) (xs : List X) (i : ℕ) (z : X) (c : C) (old counts next : List C) → i < length xs
    → c ≡ f (get_or xs i z) → counts ≡ old ++ filter keep (map f (take i xs)) → next ≡ counts ++ filter keep (c ∷ [])
    → next ≡ old ++ filter keep (map f (take (i + 1) xs))
kept_more {X} {C} keep f xs i z c old counts next below value is pushed =
    let x = get_or xs i z in
    pushed
    ∙ (λ k. is k ++ filter keep (value k ∷ []))
    ∙ append_assoc old (filter keep (map f (take i xs))) (filter keep (f x ∷ []))
    ∙ ap (λ (l : List C). old ++ l) (sym (filter-append keep (map f (take i xs)) (f x ∷ [])))
    ∙ ap (λ (l : List C). old ++ filter keep l) (sym (map_more f xs i z below))

-- a function that gives something of these alone
pub given_by_kept : {X Y : Type 0} (test : X → Bool) (g : X → Option Y) (xs : List X) → filter_map (λ x. if test x then g x else None) xs
    ≡ filter_map g (filter test xs)
given_by_kept test g [] = refl
given_by_kept {X} {Y} test g (x ∷ xs) = by_test (test x) (given_by_kept test g xs)
  where
    by_test : (b : Bool) → filter_map (λ (x : X). if test x then g x else None) xs ≡ filter_map g (filter test xs)
        → cons_option (if b then g x else None) (filter_map (λ (x : X). if test x then g x else None) xs)
        ≡ filter_map g (cond b (x ∷ filter test xs) (filter test xs))
    by_test true rest = ap (cons_option (g x)) rest
    by_test false rest = rest
