-- A list of which a part is sorted for itself.
use Rattle.std.proofs.Common.{◌≡◌, ℕ, List, [], ◌++◌, Bool, length, take, drop, take-append-drop, sym, ◌∙◌, ap, arith}
use Rattle.std.proofs.lemmas.List.{append-nil, drop_all, take_all}
use Rattle.std.proofs.lemmas.List.Elements.{filter-append}
use Rattle.std.specs.List.{filter}

pub part_keeps : {X : Type 0} (p : X → Bool) (xs part : List X) (i n : ℕ) → filter p part ≡ filter p (take n (drop i xs))
    → filter p (take i xs ++ (part ++ drop n (drop i xs))) ≡ filter p xs
part_keeps p xs part i n same =
    let ys = drop i xs in
    let behind = drop n ys in
    let sorted : filter p (part ++ behind) ≡ filter p ys = filter-append p part behind ∙ ap (λ l. l ++ filter p behind) same
    ∙ sym (filter-append p (take n ys) behind) ∙ ap (filter p) (take-append-drop n ys) in
    filter-append p (take i xs) (part ++ behind) ∙ ap (λ l. filter p (take i xs) ++ l) sorted
    ∙ sym (filter-append p (take i xs) ys) ∙ ap (filter p) (take-append-drop i xs)

-- as many elements as a vector has are written over all of them
pub written_over : {X : Type 0} (xs new : List X) (n : ℕ) → n ≡ length xs → length new ≡ length xs → take n (new ++ drop (length new) xs) ≡ new
written_over xs new n is many =
    let none : drop (length new) xs ≡ [] = drop_all (length new) xs (omega arith) in
    ap (λ l. take n (new ++ l)) none ∙ ap (take n) (append-nil new) ∙ take_all n new (omega arith)
