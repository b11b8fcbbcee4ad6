-- Items whose codes ascend, and one that is put among them.
use Rattle.std.proofs.Common.{◌≡◌, ◌≢◌, ℕ, zero, suc, ◌+◌, ◌<◌, ◌≤◌, List, [], ◌∷◌, Bool, true, false, ◌==◌, nat_lt, ◌||◌, cond, if◌then◌else◌}
use Rattle.std.proofs.Common.{is_some, length, get_or, set, Option, Some, None, refl, sym, ◌∙◌, ap, subst, arith, eq-eqb, one-add}
use Rattle.std.specs.List.{slice_get, prefix_len, insert}
use Rattle.std.proofs.lemmas.Bool.{ne_eqb, lt-ltb, le-ltb, ltb-true, ltb-false, eqb-true, eqb-false}
use Rattle.std.proofs.lemmas.Option.{slice_get_read, slice_get_past}
use Rattle.std.proofs.lemmas.List.Sums.{prefix_len_is}
use Rattle.stream_table.specs.CodeOrder.{CodesAreAbove, AscendsByCode, placed, item_of, is_below, IsAtPlace, IsGap, finds_room}

module _ {A : Type 0} (code : A → ℕ) where
  pub above_more : (c d : ℕ) (xs : List A) → c ≤ d → CodesAreAbove code d xs → CodesAreAbove code c xs
  above_more c d [] le above = tt
  above_more c d (x ∷ xs) le above = (omega (arith, above.0), above_more c d xs le above.1)

  above_at : (c : ℕ) (xs : List A) (i : ℕ) (d : A) → CodesAreAbove code c xs → i < length xs → c < code (get_or xs i d)
  above_at c [] i d above within = absurd (omega arith)
  above_at c (x ∷ xs) zero d above within = above.0
  above_at c (x ∷ xs) (suc i) d above within = above_at c xs i d above.1 (omega arith)

  pub ascends_far : (xs : List A) (i j : ℕ) (d : A) → AscendsByCode code xs → i ≤ j → j < length xs → code (get_or xs i d) ≤ code (get_or xs j d)
  ascends_far [] i j d up le within = absurd (omega arith)
  ascends_far (x ∷ xs) zero zero d up le within = omega arith
  ascends_far (x ∷ xs) zero (suc j) d up le within = omega (arith, above_at (code x) xs j d up.0 (omega arith))
  ascends_far (x ∷ xs) (suc i) zero d up le within = absurd (omega arith)
  ascends_far (x ∷ xs) (suc i) (suc j) d up le within = ascends_far xs i j d up.1 (omega arith) (omega arith)

  above_get : (c : ℕ) (xs : List A) (n : ℕ) (x : A) → CodesAreAbove code c xs → slice_get xs n ≡ Some x → c < code x
  above_get c [] n x above at = cc
  above_get c (y ∷ xs) zero x above at = let same : y ≡ x = cc in subst (λ (z : A). c < code z) same above.0
  above_get c (y ∷ xs) (suc n) x above at = above_get c xs n x above.1 at

  -- nothing above c has the code c
  none_above : (c : ℕ) (xs : List A) → CodesAreAbove code c xs → item_of code xs c ≡ None
  none_above c [] above = refl
  none_above c (x ∷ xs) above = let other : code x ≢ c = omega (arith, above.0) in rw (ne_eqb (code x) c other) (none_above c xs above.1)

  none_by_test : (c : ℕ) (x : A) (xs : List A) (n : ℕ) (b : Bool) → nat_lt (code x) c ≡ b → CodesAreAbove code (code x) xs
      → (((y : A) → slice_get xs n ≡ Some y → code y ≢ c) → item_of code xs c ≡ None)
      → ((y : A) → slice_get (x ∷ xs) (cond b (1 + n) 0) ≡ Some y → code y ≢ c) → item_of code (x ∷ xs) c ≡ None
  none_by_test c x xs n true is above rest other =
      let below = ltb-true (code x) c is in
      let apart : code x ≢ c = omega arith in
      let later : (y : A) → slice_get xs n ≡ Some y → code y ≢ c = λ y at. other y (rw one-add at) in
      rw (ne_eqb (code x) c apart) (rest later)
  none_by_test c x xs n false is above rest other =
      let from = ltb-false (code x) c is in
      let apart : code x ≢ c = other x refl in
      rw (ne_eqb (code x) c apart) (none_above c xs (above_more c (code x) xs from above))

  pub none_of_below : (c : ℕ) (xs : List A) → AscendsByCode code xs → ((y : A) → slice_get xs (prefix_len (is_below code c) xs) ≡ Some y → code y ≢ c)
      → item_of code xs c ≡ None
  none_of_below c [] up other = refl
  none_of_below c (x ∷ xs) up other = none_by_test c x xs (prefix_len (is_below code c) xs) (nat_lt (code x) c) refl up.0 (none_of_below c xs up.1) other

  -- where an item of this code is
  pub item_at : (c : ℕ) (xs : List A) (n : ℕ) (x : A) → AscendsByCode code xs → slice_get xs n ≡ Some x → code x ≡ c → item_of code xs c ≡ Some x
  item_at c [] n x up at is = cc
  item_at c (y ∷ xs) zero x up at is = let same : y ≡ x = cc in let here : code y ≡ c = ap code same ∙ is in
      rw (eq-eqb (code y) c here) (ap (λ (z : A). Some z) same)
  item_at c (y ∷ xs) (suc n) x up at is =
      let above = above_get (code y) xs n x up.0 at in
      let apart : code y ≢ c = omega arith in
      rw (ne_eqb (code y) c apart) (item_at c xs n x up.1 at is)

  apart_from : (c : ℕ) (x : A) (xs : List A) → item_of code (x ∷ xs) c ≡ None → (code x ≢ c) × (item_of code xs c ≡ None)
  apart_from c x xs none = by_test (code x == c) refl none
    where
      by_test : (b : Bool) → (code x == c) ≡ b → cond b (Some x) (item_of code xs c) ≡ None → (code x ≢ c) × (item_of code xs c ≡ None)
      by_test true is none = cc
      by_test false is none = (eqb-false (code x) c is, none)

  -- what is at a place has another code, or nothing is there
  pub other_there : (c : ℕ) (xs : List A) (p n : ℕ) (y : A) → n ≡ p → n < length xs → y ≡ get_or xs n y → code y ≢ c → (x : A) → slice_get xs p ≡ Some x
      → code x ≢ c
  other_there c xs p n y is within read other x at =
      let there : slice_get xs n ≡ Some y = slice_get_read xs (length xs) n y refl within read in
      let same : y ≡ x = cc (ap (slice_get xs) is) in
      λ here. other (ap code same ∙ here)

  pub none_there : (c : ℕ) (xs : List A) (p n : ℕ) → n ≡ p → length xs ≤ n → (x : A) → slice_get xs p ≡ Some x → code x ≢ c
  none_there c xs p n is past x at =
      let none : slice_get xs n ≡ None = slice_get_past xs n past in
      cc (ap (slice_get xs) is)

  -- an item in its place
  above_tests : (a x : A) (c : ℕ) (xs with : List A) (same first : Bool) → c < code a → c < code x → CodesAreAbove code c xs → CodesAreAbove code c with
      → CodesAreAbove code c (cond same (a ∷ xs) (cond first (a ∷ x ∷ xs) (x ∷ with)))
  above_tests a x c xs with true first less here above rest = (less, above)
  above_tests a x c xs with false true less here above rest = (less, (here, above))
  above_tests a x c xs with false false less here above rest = (here, rest)

  above_placed : (a : A) (c : ℕ) (xs : List A) → c < code a → CodesAreAbove code c xs → CodesAreAbove code c (placed code a xs)
  above_placed a c [] less above = (less, tt)
  above_placed a c (x ∷ xs) less above =
      above_tests a x c xs (placed code a xs) (code a == code x) (nat_lt (code a) (code x)) less above.0 above.1 (above_placed a c xs less above.1)

  ascends_tests : (a x : A) (xs with : List A) (same first : Bool) → (code a == code x) ≡ same → nat_lt (code a) (code x) ≡ first
      → CodesAreAbove code (code x) xs → AscendsByCode code xs → (code x < code a → CodesAreAbove code (code x) with) → AscendsByCode code with
      → AscendsByCode code (cond same (a ∷ xs) (cond first (a ∷ x ∷ xs) (x ∷ with)))
  ascends_tests a x xs with true first is less above up later rest =
      (subst (λ (c : ℕ). CodesAreAbove code c xs) (sym (eqb-true (code a) (code x) is)) above, up)
  ascends_tests a x xs with false true is less above up later rest = let below = ltb-true (code a) (code x) less in
      ((below, above_more (code a) (code x) xs (omega arith) above), (above, up))
  ascends_tests a x xs with false false is less above up later rest =
      let apart = eqb-false (code a) (code x) is in
      let from = ltb-false (code a) (code x) less in
      (later (omega arith), rest)

  pub ascends_placed : (a : A) (xs : List A) → AscendsByCode code xs → AscendsByCode code (placed code a xs)
  ascends_placed a [] up = (tt, tt)
  ascends_placed a (x ∷ xs) up =
      ascends_tests a x xs (placed code a xs) (code a == code x) (nat_lt (code a) (code x)) refl refl up.0 up.1 (λ less. above_placed a (code x) xs less up.0)
      (ascends_placed a xs up.1)

  pub replaced_is : (a : A) (xs : List A) (n : ℕ) (x : A) → AscendsByCode code xs → slice_get xs n ≡ Some x → code x ≡ code a → placed code a xs ≡ set xs n a
  replaced_is a [] n x up at is = cc
  replaced_is a (y ∷ xs) zero x up at is =
      let same : y ≡ x = cc in
      let here : code a ≡ code y = sym (ap code same ∙ is) in
      rw (eq-eqb (code a) (code y) here) refl
  replaced_is a (y ∷ xs) (suc n) x up at is =
      let above = above_get (code y) xs n x up.0 at in
      let apart : code a ≢ code y = omega arith in
      rw (ne_eqb (code a) (code y) apart, le-ltb (code a) (code y) (omega arith)) (ap (λ (l : List A). y ∷ l) (replaced_is a xs n x up.1 at is))

  insert_by_test : (a y : A) (xs : List A) (n : ℕ) (b : Bool) → nat_lt (code y) (code a) ≡ b → code y ≢ code a → placed code a xs ≡ insert xs n a
      → placed code a (y ∷ xs) ≡ insert (y ∷ xs) (cond b (1 + n) 0) a
  insert_by_test a y xs n true is apart rest =
      let below = ltb-true (code y) (code a) is in
      let other : code a ≢ code y = omega arith in
      rw (ne_eqb (code a) (code y) other, le-ltb (code a) (code y) (omega arith), one-add) (ap (λ (l : List A). y ∷ l) rest)
  insert_by_test a y xs n false is apart rest =
      let from = ltb-false (code y) (code a) is in
      let other : code a ≢ code y = omega arith in
      rw (ne_eqb (code a) (code y) other, lt-ltb (code a) (code y) (omega arith)) refl

  pub inserted_is : (a : A) (xs : List A) → item_of code xs (code a) ≡ None → placed code a xs ≡ insert xs (prefix_len (is_below code (code a)) xs) a
  inserted_is a [] none = refl
  inserted_is a (y ∷ xs) none =
      let apart = apart_from (code a) y xs none in
      insert_by_test a y xs (prefix_len (is_below code (code a)) xs) (nat_lt (code y) (code a)) refl apart.0 (inserted_is a xs apart.1)

  -- as many as have a lesser code, counted from both sides
  pub below_is : (c : ℕ) (xs : List A) (n : ℕ) → n ≤ length xs → ((k : ℕ) (d : A) → k < n → code (get_or xs k d) < c)
      → ((k : ℕ) (d : A) → n ≤ k → k < length xs → c ≤ code (get_or xs k d))
      → n ≡ prefix_len (is_below code c) xs
  below_is c [] n le below from = omega arith
  below_is c (x ∷ xs) n le below from =
      sym (prefix_len_is (is_below code c) (x ∷ xs) n x le (λ k less. lt-ltb (code (get_or (x ∷ xs) k x)) c (below k x less))
      (λ less. le-ltb (code (get_or (x ∷ xs) n x)) c (from n x (omega arith) less)))

  -- what is found at a place
  pub found_there : (c : ℕ) (xs : List A) (n : ℕ) (x : A) → AscendsByCode code xs → n < length xs → x ≡ get_or xs n x → code x ≡ c → IsAtPlace code xs c n
  found_there c xs n x up within read is =
      let at : slice_get xs n ≡ Some x = slice_get_read xs (length xs) n x refl within read in
      record { within = within; item = x; at = at; is = is; found = item_at c xs n x up at is }

-- an item that is put to a list, whose place was found in it
module _ {A : Type 0} (code : A → ℕ) (xs list : List A) (a : A) (c n : ℕ) (same : list ≡ xs) (coded : c ≡ code a) (up : AscendsByCode code xs) where
  there : IsAtPlace code list c n → IsAtPlace code xs (code a) n
  there at = subst (λ (d : ℕ). IsAtPlace code xs d n) coded (subst (λ (l : List A). IsAtPlace code l c n) same at)

  gap_there : IsGap code list c n → IsGap code xs (code a) n
  gap_there gap = subst (λ (d : ℕ). IsGap code xs d n) coded (subst (λ (l : List A). IsGap code l c n) same gap)

  replaced_at : (out : List A) → IsAtPlace code list c n → out ≡ set xs n a → out ≡ placed code a xs
  replaced_at out at is = let here = there at in is ∙ sym (replaced_is code a xs n here.item up here.at here.is)

  pub replaced : (most : ℕ) (out : List A) → IsAtPlace code list c n → out ≡ set xs n a
      → out ≡ (if finds_room code most xs (code a) then placed code a xs else xs)
  replaced most out at is =
      replaced_at out at is ∙ sym (ap (λ (o : Option A). if is_some o || nat_lt (length xs) most then placed code a xs else xs) (there at).found)

  pub replaced_ascends : (out : List A) → IsAtPlace code list c n → out ≡ set xs n a → AscendsByCode code out
  replaced_ascends out at is = subst (AscendsByCode code) (sym (replaced_at out at is)) (ascends_placed code a xs up)

  added_at : (out : List A) → IsGap code list c n → out ≡ insert xs n a → out ≡ placed code a xs
  added_at out gap is = let here = gap_there gap in is ∙ ap (λ (p : ℕ). insert xs p a) here.place ∙ sym (inserted_is code a xs here.missing)

  pub added : (most : ℕ) (out : List A) → IsGap code list c n → length xs < most → out ≡ insert xs n a
      → out ≡ (if finds_room code most xs (code a) then placed code a xs else xs)
  added most out gap room is =
      added_at out gap is
      ∙ sym (ap (λ (o : Option A). if is_some o || nat_lt (length xs) most then placed code a xs else xs) (gap_there gap).missing
      ∙ ap (λ (b : Bool). if b then placed code a xs else xs) (lt-ltb (length xs) most room))

  pub added_ascends : (out : List A) → IsGap code list c n → out ≡ insert xs n a → AscendsByCode code out
  added_ascends out gap is = subst (AscendsByCode code) (sym (added_at out gap is)) (ascends_placed code a xs up)

-- a list that is not full has room for any code
or_true : (b : Bool) → (b || true) ≡ true
or_true true = refl
or_true false = refl

pub room_found : {A : Type 0} (code : A → ℕ) (most c : ℕ) (xs : List A) → length xs < most → finds_room code most xs c ≡ true
room_found code most c xs room = ap (λ (b : Bool). is_some (item_of code xs c) || b) (lt-ltb (length xs) most room) ∙ or_true (is_some (item_of code xs c))
