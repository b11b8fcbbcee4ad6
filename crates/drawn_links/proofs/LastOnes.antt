-- The last element of a list that passes a test.
use Rattle.std.proofs.Common.{◌≡◌, ℕ, zero, suc, ◌-◌, ◌<◌, List, [], ◌∷◌, Bool, true, false, ◌&&◌, length, get_or, map, filter, reverse}
use Rattle.std.proofs.Common.{Option, Some, None, option_map, cond, refl, sym, ◌∙◌, ap, arith}
use Rattle.std.proofs.lemmas.List.{reverse-append}
use Rattle.std.proofs.lemmas.List.Folds.{find-append}
use Rattle.std.proofs.lemmas.Option.{slice_get-get_or}
use Rattle.std.specs.List.{AllWithin, find, slice_get}
use Rattle.std.specs.Option.{option_or}

-- the last of a list with one element more in front
pub last_more : {X : Type 0} (p : X → Bool) (x : X) (xs : List X)
    → find p (reverse (x ∷ xs)) ≡ option_or (find p (reverse xs)) (cond (p x) (Some x) None)
last_more p x xs = ap (find p) (reverse-append (x ∷ []) xs) ∙ find-append p (reverse xs) (x ∷ [])

-- where none passes
pub none_last : {X : Type 0} (p : X → Bool) (xs : List X) → AllWithin (λ x. p x ≡ false) xs 0 (length xs) → find p (reverse xs) ≡ None
none_last p [] none = refl
none_last {X} p (x ∷ xs) none =
    last_more p x xs
    ∙ ap (λ (o : Option X). option_or o (cond (p x) (Some x) None)) (none_last p xs (λ k d low high. none (suc k) d (omega arith) (omega arith)))
    ∙ ap (λ (b : Bool). cond b (Some x) None) (none 0 x (omega arith) (omega arith))

-- one that passes, and none after it
pub one_last : {X : Type 0} (p : X → Bool) (xs : List X) (k : ℕ) (d : X) → k < length xs → p (get_or xs k d) ≡ true
    → AllWithin (λ x. p x ≡ false) xs (suc k) (length xs) → find p (reverse xs) ≡ Some (get_or xs k d)
one_last p [] k d inside passes none = absurd (omega arith)
one_last {X} p (x ∷ xs) zero d inside passes none =
    last_more p x xs
    ∙ ap (λ (o : Option X). option_or o (cond (p x) (Some x) None)) (none_last p xs (λ k e low high. none (suc k) e (omega arith) (omega arith)))
    ∙ ap (λ (b : Bool). cond b (Some x) None) passes
one_last {X} p (x ∷ xs) (suc k) d inside passes none =
    last_more p x xs
    ∙ ap (λ (o : Option X). option_or o (cond (p x) (Some x) None))
    (one_last p xs k d (omega arith) passes (λ j e low high. none (suc j) e (omega arith) (omega arith)))

-- the last of all
pub last_of_all : {X : Type 0} (xs : List X) → find (λ x. true) (reverse xs) ≡ slice_get xs (length xs - 1)
last_of_all [] = refl
last_of_all (x ∷ xs) =
    let n : ℕ = length (x ∷ xs) - 1 in
    one_last (λ y. true) (x ∷ xs) n x (omega arith) refl (λ k d low high. absurd (omega arith))
    ∙ sym (slice_get-get_or (x ∷ xs) n x (omega arith))

module _ {L S A : Type 0} (p : L → Bool) (q : S → Bool) (g : L → S) (h : S → A) where
  abbrev both : L → Bool
  both l = p l && q (g l)

  spread : (a b : Option L) → option_map (λ l. h (g l)) (option_or a b) ≡ option_or (option_map (λ l. h (g l)) a) (option_map (λ l. h (g l)) b)
  spread None b = refl
  spread (Some x) b = refl

  spread_kept : (a b : Option S) → option_map h (option_or a b) ≡ option_or (option_map h a) (option_map h b)
  spread_kept None b = refl
  spread_kept (Some x) b = refl

  by_test : (b : Bool) (l : L) → option_map (λ l. h (g l)) (cond b (Some l) None) ≡ option_map h (cond b (Some (g l)) None)
  by_test true l = refl
  by_test false l = refl

  nothing_more : (o : Option A) → o ≡ option_or o None
  nothing_more None = refl
  nothing_more (Some x) = refl

  one_more : (b : Bool) (l : L) (ls : List L)
      → option_or (option_map h (find q (reverse (map g (filter p ls))))) (option_map (λ l. h (g l)) (cond (b && q (g l)) (Some l) None))
      ≡ option_map h (find q (reverse (map g (cond b (l ∷ filter p ls) (filter p ls)))))
  one_more true l ls =
      ap (option_or (option_map h (find q (reverse (map g (filter p ls)))))) (by_test (q (g l)) l)
      ∙ sym (spread_kept (find q (reverse (map g (filter p ls)))) (cond (q (g l)) (Some (g l)) None))
      ∙ sym (ap (option_map h) (last_more q (g l) (map g (filter p ls))))
  one_more false l ls = sym (nothing_more (option_map h (find q (reverse (map g (filter p ls))))))

  -- what the last that passes both tests gives is what the last gives that passes the second, of those that pass the first
  pub last_of_kept : (ls : List L) → option_map (λ l. h (g l)) (find both (reverse ls)) ≡ option_map h (find q (reverse (map g (filter p ls))))
  last_of_kept [] = refl
  last_of_kept (l ∷ ls) =
      ap (option_map (λ l. h (g l))) (last_more both l ls)
      ∙ spread (find both (reverse ls)) (cond (both l) (Some l) None)
      ∙ ap (λ (o : Option A). option_or o (option_map (λ l. h (g l)) (cond (both l) (Some l) None))) (last_of_kept ls)
      ∙ one_more (p l) l ls
