-- A line added in its order: what the list then holds, that it ascends, and where a search finds its place.
use Rattle.std.proofs.Common.{◌≡◌, ℕ, zero, suc, ◌+◌, ◌-◌, ◌<◌, ◌≤◌, List, [], ◌∷◌, ◌++◌, Bool, true, false, ◌||◌, length}
use Rattle.std.proofs.Common.{get_or, Result, Ok, Err, refl, sym, ◌∙◌, ap, subst, arith, inl, inr, if◌then◌else◌}
use Rattle.std.proofs.lemmas.Bool.{cases_lt}
use Rattle.std.proofs.lemmas.List.Edits.{length-insert, get_or-insert_below, get_or-insert_at, get_or-insert_above, insert_end}
use Rattle.std.proofs.lemmas.List.Sorted.{searchable_from_sorted}
use Rattle.std.proofs.lemmas.List.Folds.{list_any_at, list_any_none}
use Rattle.std.specs.Cmp.{IsTotalOrder}
use Rattle.std.specs.List.{insert, list_any, AllWithin}
use Rattle.std.specs.List.Sorted.{IsSearchInRange, IsBinarySearchResult, IsNonDecreasingBy}
use Rattle.std.specs.Ordering.{ordering_index, ordering_reverse, is_lt, is_eq}
use Rattle.std.specs.declared.cmp.Ordering.{Ordering}
use Rattle.std.specs.declared.cmp.Ordering.TheVariants.{Less, Equal, Greater}
use Rattle.std.specs.Result.{MatchResult}
use Rattle.std.specs.Prelude.{IfOk, IfErr}
use Rattle.link_trace.specs.Order.{Ascends, HasPlace, with_line}

module _ {L : Type 0} (order : L → L → Ordering) where
  -- one of the old lines or the new one
  one_of_them : (p : L → Bool) (l x : L) (xs : List L) (o : Ordering) → list_any p (with_line order l xs) ≡ (p l || list_any p xs)
      → list_any p (if is_lt o then x ∷ with_line order l xs else l ∷ x ∷ xs) ≡ (p l || (p x || list_any p xs))
  one_of_them p l x xs Less added = ap (λ (b : Bool). p x || b) added ∙ turned (p x) (p l) (list_any p xs)
    where
      turned : (a b c : Bool) → (a || (b || c)) ≡ (b || (a || c))
      turned false b c = refl
      turned true false c = refl
      turned true true c = refl
  one_of_them p l x xs Equal added = refl
  one_of_them p l x xs Greater added = refl

  pub list_any-with_line : (p : L → Bool) (l : L) (ls : List L) → list_any p (with_line order l ls) ≡ (p l || list_any p ls)
  list_any-with_line p l [] = refl
  list_any-with_line p l (x ∷ xs) = one_of_them p l x xs (order x l) (list_any-with_line p l xs)

  one_longer : (l x : L) (xs : List L) (o : Ordering) → length (with_line order l xs) ≡ length xs + 1
      → length (if is_lt o then x ∷ with_line order l xs else l ∷ x ∷ xs) ≡ length (x ∷ xs) + 1
  one_longer l x xs Less added = omega (arith, added)
  one_longer l x xs Equal added = omega arith
  one_longer l x xs Greater added = omega arith

  -- an insert at its place
  pub insert_is : (l : L) (at : ℕ) (ls : List L) → at ≤ length ls → AllWithin (λ x. order x l ≡ Less) ls 0 at
      → AllWithin (λ x. order x l ≡ Greater) ls at (length ls)
      → insert ls at l ≡ with_line order l ls
  insert_is l zero [] within below above = refl
  insert_is l zero (x ∷ xs) within below above = rw (above 0 x (omega arith) (omega arith)) refl
  insert_is l (suc at) [] within below above = absurd (omega arith)
  insert_is l (suc at) (x ∷ xs) within below above =
      rw (below 0 x (omega arith) (omega arith))
      (ap (λ (ys : List L). x ∷ ys) (insert_is l at xs (omega arith) (λ k d low high. below (suc k) d (omega arith) (omega arith))
      (λ k d low high. above (suc k) d (omega arith) (omega arith))))

  -- a line above all others is last
  pub with_last : (l : L) (ls : List L) → ((k : ℕ) (d : L) → k < length ls → order (get_or ls k d) l ≡ Less) → with_line order l ls ≡ ls ++ l ∷ []
  with_last l ls below = sym
      (insert_is l (length ls) ls (omega arith) (λ k d low high. below k d high) (λ k d low high. absurd (omega arith))) ∙ insert_end ls l

module _ {L : Type 0} (order : L → L → Ordering) (total : IsTotalOrder order) where
  turned_less : (x y : L) → order x y ≡ Less → order y x ≡ Greater
  turned_less x y less = total.antisymm y x ∙ ap ordering_reverse less

  turned_greater : (x y : L) → order x y ≡ Greater → order y x ≡ Less
  turned_greater x y greater = total.antisymm y x ∙ ap ordering_reverse greater

  rises : (ls : List L) → Ascends order ls → (l : L) → IsNonDecreasingBy (λ x. ordering_index (order x l)) ls
  rises ls up l = searchable_from_sorted total (λ (x : L). x) ls l (λ k d low high. ap is_lt (turned_less _ _ (up k (k + 1) d (omega arith) high)))

  module _ (ls : List L) (l : L) where
    abbrev pub there : Bool
    there = list_any (λ x. is_eq (order x l)) ls

    -- no line is l where l has a place
    pub not_there : (at : ℕ) → HasPlace order ls l at → there ≡ false
    not_there at place =
        list_any_none (λ (x : L). is_eq (order x l)) ls (λ k d inside. elim (cases_lt k at) [
          | inl before ↦ ap is_eq (place.below k d (omega arith) before)
          | inr after ↦ ap is_eq (place.above k d after inside)
        ])

    -- what a binary search finds: the line, or its place
    pub searched : Ascends order ls → (r : Result ℕ ℕ) → IsSearchInRange r (length ls) → IsBinarySearchResult (λ x. order x l) ls r
        → MatchResult r (λ at. there ≡ true) (HasPlace order ls l)
    searched up (Ok at) inside found = list_any_at (λ (x : L). is_eq (order x l)) ls at l inside (ap is_eq (found l))
    searched up (Err at) inside parted = let parts = parted (rises ls up l) in record { within = inside; below = parts.0; above = parts.1 }

    -- it finds the line if and only if it is there
    pub found_there : Ascends order ls → (r : Result ℕ ℕ) → IsSearchInRange r (length ls) → IsBinarySearchResult (λ x. order x l) ls r
        → IfOk r (λ at. there ≡ true)
    found_there up (Ok at) inside found = searched up (Ok at) inside found
    found_there up (Err at) inside parted = tt

    pub not_found_there : Ascends order ls → (r : Result ℕ ℕ) → IsSearchInRange r (length ls) → IsBinarySearchResult (λ x. order x l) ls r
        → IfErr r (λ at. there ≡ false)
    not_found_there up (Ok at) inside found = tt
    not_found_there up (Err at) inside parted = not_there at (searched up (Err at) inside parted)

    module _ (at : ℕ) (place : HasPlace order ls l at) where
      pub insert_is_with_line : insert ls at l ≡ with_line order l ls
      insert_is_with_line = insert_is order l at ls place.within place.below place.above

      abbrev added : List L
      added = insert ls at l

      moved_up : (k : ℕ) (d : L) → at < k → get_or added k d ≡ get_or ls (k - 1) d
      moved_up k d above = subst (λ (q : ℕ). get_or added q d ≡ get_or ls (k - 1) d) {x = k - 1 + 1} (omega arith)
          (get_or-insert_above ls at l d (k - 1) (omega arith) place.within)

      longer : length added ≡ length ls + 1
      longer = length-insert ls at l place.within

      before_it : Ascends order ls → (i j : ℕ) (d : L) → i < j → j < at → order (get_or added i d) (get_or added j d) ≡ Less
      before_it up i j d less before =
          rw (get_or-insert_below ls at l d i (omega arith) place.within, get_or-insert_below ls at l d j (omega arith) place.within)
          (up i j d less (omega (arith, place.within)))

      up_to_it : (i j : ℕ) (d : L) → i < at → j ≡ at → order (get_or added i d) (get_or added j d) ≡ Less
      up_to_it i j d before here =
          rw (here, get_or-insert_below ls at l d i (omega arith) place.within, get_or-insert_at ls at l d place.within) (place.below i d (omega arith) before)

      from_it : (i j : ℕ) (d : L) → i ≡ at → at < j → j < length added → order (get_or added i d) (get_or added j d) ≡ Less
      from_it i j d here after inside =
          rw (here, moved_up j d after, get_or-insert_at ls at l d place.within)
          (turned_greater _ _ (place.above (j - 1) d (omega arith) (omega (arith, longer))))

      over_it : Ascends order ls → (i j : ℕ) (d : L) → i < at → at < j → j < length added → order (get_or added i d) (get_or added j d) ≡ Less
      over_it up i j d before after inside =
          rw (moved_up j d after, get_or-insert_below ls at l d i (omega arith) place.within) (up i (j - 1) d (omega arith) (omega (arith, longer)))

      after_it : Ascends order ls → (i j : ℕ) (d : L) → at < i → i < j → j < length added → order (get_or added i d) (get_or added j d) ≡ Less
      after_it up i j d after less inside =
          rw (moved_up i d after, moved_up j d (omega arith)) (up (i - 1) (j - 1) d (omega arith) (omega (arith, longer)))

      pub insert_ascends : Ascends order ls → Ascends order added
      insert_ascends up i j d less inside =
          elim (cases_lt j at) [
            | inl before ↦ before_it up i j d less before
            | inr from ↦ elim (cases_lt at j) [
              | inr upto ↦ up_to_it i j d (omega arith) (omega arith)
              | inl after ↦ elim (cases_lt i at) [
                | inl before ↦ over_it up i j d before after inside
                | inr not_before ↦ elim (cases_lt at i) [
                  | inl beyond ↦ after_it up i j d beyond less inside
                  | inr here ↦ from_it i j d (omega arith) after inside
                ]
              ]
            ]
          ]

      pub added_ascends : Ascends order ls → Ascends order (with_line order l ls)
      added_ascends up = subst (Ascends order) insert_is_with_line (insert_ascends up)

  place_later : (l x : L) (xs : List L) (at : ℕ) → order x l ≡ Less → HasPlace order xs l at → HasPlace order (x ∷ xs) l (suc at)
  place_later l x xs at less place = record { within = omega (arith, place.within); below = below; above = above }
    where
      below : AllWithin (λ y. order y l ≡ Less) (x ∷ xs) 0 (suc at)
      below zero d low high = less
      below (suc k) d low high = place.below k d (omega arith) (omega arith)

      above : AllWithin (λ y. order y l ≡ Greater) (x ∷ xs) (suc at) (length (x ∷ xs))
      above zero d low high = absurd (omega arith)
      above (suc k) d low high = place.above k d (omega arith) (omega arith)
