-- A list by ascending keys, gone through from one key to the next.
use Rattle.std.proofs.Common.{◌≡◌, ◌≢◌, ℕ, zero, suc, ◌+◌, ◌<◌, ◌≤◌, List, [], ◌∷◌, ◌++◌, take, drop, length, filter, get_or, Bool, true}
use Rattle.std.proofs.Common.{false, if◌then◌else◌, nat_lt, Option, Some, None, refl, sym, ap, ◌∙◌, arith, ltb-true}
use Rattle.std.specs.Prelude.{slice_get, Contains}
use Rattle.std.proofs.lemmas.Bool.{ltb-false}
use Rattle.std.proofs.lemmas.List.{take-append-drop, append-nil, length-drop, get_or-drop, length-take, get_or-take}
use Rattle.std.proofs.lemmas.List.Elements.{filter-append}
use Rattle.std.proofs.lemmas.Option.{slice_get_within, get_or_from_slice_get, same_Some, none-some, slice_get_read, slice_get_past, slice_get-get_or}
use Rattle.air_log.specs.Courses.{IsSplitByKey, IsSortedByKey}
use Rattle.air_log.proofs.NextDue.{none_passes}

module _ {X : Type 0} where
  -- what is read at an index of a list is there
  pub read_at : (xs read : List X) (k : ℕ) (x : X) → read ≡ xs → true ≡ nat_lt k (length read) → x ≡ get_or read k x → slice_get xs k ≡ Some x
  read_at xs read k x same within is =
      ap (λ (ys : List X). slice_get ys k) (sym same) ∙ slice_get_read read (length read) k x refl (ltb-true k (length read) (sym within)) is

  pub read_past : (xs read : List X) (k : ℕ) → read ≡ xs → false ≡ nat_lt k (length read) → slice_get xs k ≡ None
  read_past xs read k same past =
      ap (λ (ys : List X). slice_get ys k) (sym same) ∙ slice_get_past read k (let at = ltb-false k (length read) (sym past) in omega (arith, at))

  pub one_more : (xs : List X) (k : ℕ) (x : X) → slice_get xs k ≡ Some x → take k xs ++ x ∷ [] ≡ take (suc k) xs
  one_more [] k x at = absurd (none-some _ at)
  one_more (y ∷ xs) zero x at = ap (λ (z : X). z ∷ []) (sym (same_Some _ _ at))
  one_more (y ∷ xs) (suc k) x at = ap (λ (ys : List X). y ∷ ys) (one_more xs k x at)

  past : (xs : List X) (j : ℕ) → slice_get xs j ≡ None → (i : ℕ) (x : X) → slice_get xs i ≡ Some x → j ≤ i → ⊥
  past [] j is i x at le = none-some _ at
  past (y ∷ xs) zero is i x at le = none-some _ (sym is)
  past (y ∷ xs) (suc j) is zero x at le = omega (arith, le)
  past (y ∷ xs) (suc j) is (suc i) x at le = past xs j is i x at (omega (arith, le))

  pub behind_first : (xs : List X) (k : ℕ) (x : X) → Contains (drop k xs) x → (i : ℕ) × (k ≤ i) × (slice_get xs i ≡ Some x)
  behind_first xs k x (j, below, at) =
      let long = length-drop k xs in
      let within : k + j < length xs = omega (arith, below, long) in
      (k + j, omega arith, slice_get-get_or xs (k + j) x within ∙ ap (λ (y : X). Some y) (sym (get_or-drop k xs j x) ∙ at))

  pub among_first : (xs : List X) (k : ℕ) (x : X) → Contains (take k xs) x → (i : ℕ) × (i < k) × (slice_get xs i ≡ Some x)
  among_first xs k x (j, below, at) =
      let long = length-take k xs in
      let less : j < k = omega (arith, below, long) in
      let within : j < length xs = omega (arith, below, long) in
      (j, less, slice_get-get_or xs j x within ∙ ap (λ (y : X). Some y) (sym (get_or-take k xs j x less) ∙ at))

  module _ (key : X → ℕ) (xs : List X) where
    -- so far the keys are t at most, and from here on t at least
    pub record IsGone (k t : ℕ) : Type 0 where
      pub before : (i : ℕ) (x : X) → slice_get xs i ≡ Some x → i < k → key x < t + 1
      pub behind : (i : ℕ) (x : X) → slice_get xs i ≡ Some x → k ≤ i → t ≤ key x

    pub first_cut : IsSplitByKey key xs 0 0
    first_cut = record { before = λ i x at less. absurd (omega (arith, less)); behind = λ i x at le. omega arith }

    pub gone_first : (k t : ℕ) → IsSplitByKey key xs k t → IsGone k t
    gone_first k t cut = record { before = λ i x at less. (let early = cut.before i x at less in omega (arith, early)); behind = cut.behind }

    pub gone_more : (k t : ℕ) (x : X) → slice_get xs k ≡ Some x → key x ≡ t → IsGone k t → IsGone (k + 1) t
    gone_more k t x at same gone = record { before = before; behind = λ i y there le. gone.behind i y there (omega (arith, le)) }
      where
        before : (i : ℕ) (y : X) → slice_get xs i ≡ Some y → i < k + 1 → key y < t + 1
        before i y there less = by (nat_lt i k) refl
          where
            by : (b : Bool) → nat_lt i k ≡ b → key y < t + 1
            by true is = gone.before i y there (ltb-true i k is)
            by false is =
                let here : i ≡ k = omega (arith, less, ltb-false i k is) in
                let one : y ≡ x = same_Some _ _ (sym there ∙ ap (λ (j : ℕ). slice_get xs j) here ∙ at) in
                let keys = ap key one in
                omega (arith, same, keys)

    module _ (ascends : IsSortedByKey key xs) where
      -- from an element on the keys are no less
      pub from_here : (k : ℕ) (x : X) → slice_get xs k ≡ Some x → (i : ℕ) (y : X) → slice_get xs i ≡ Some y → k ≤ i → key x ≤ key y
      from_here k x at i y there le = by (nat_lt k i) refl
        where
          by : (b : Bool) → nat_lt k i ≡ b → key x ≤ key y
          by true is =
              let less = ltb-true k i is in
              let pair = ascends k i y less (slice_get_within xs i y there) in
              let first = ap key (get_or_from_slice_get xs k x y at) in
              let second = ap key (get_or_from_slice_get xs i y y there) in
              omega (arith, pair, first, second)
          by false is =
              let same : k ≡ i = omega (arith, le, ltb-false k i is) in
              let keys = ap key (same_Some _ _ (sym at ∙ ap (λ (j : ℕ). slice_get xs j) same ∙ there)) in
              omega (arith, keys)

      -- the next one has another key
      pub cut_at : (k t : ℕ) (x : X) → slice_get xs k ≡ Some x → key x ≢ t → IsGone k t → IsSplitByKey key xs k (t + 1)
      cut_at k t x at other gone = record {
        before = gone.before;
        behind = λ i y there le. (let later = from_here k x at i y there le in omega (arith, here, later));
      }
        where
          here : t < key x
          here = let le = gone.behind k x at (omega arith) in by (nat_lt t (key x)) refl le
            where
              by : (b : Bool) → nat_lt t (key x) ≡ b → t ≤ key x → t < key x
              by true is le = ltb-true t (key x) is
              by false is le = absurd (other (omega (arith, le, ltb-false t (key x) is)))

      -- a key that the next one has not yet reached
      pub cut_later : (k t u : ℕ) → t ≤ u → IsSplitByKey key xs k t → ((x : X) → slice_get xs k ≡ Some x → u ≤ key x) → IsSplitByKey key xs k u
      cut_later k t u le cut next = record { before = λ i x at less. (let early = cut.before i x at less in omega (arith, early, le)); behind = behind }
        where
          behind : (i : ℕ) (y : X) → slice_get xs i ≡ Some y → k ≤ i → u ≤ key y
          behind i y there from = by (slice_get xs k) refl
            where
              by : (o : Option X) → slice_get xs k ≡ o → u ≤ key y
              by None none = absurd (past xs k none i y there from)
              by (Some x) at = (let first = next x at in let later = from_here k x at i y there from in omega (arith, first, later))

    -- there is no next one
    pub cut_end : (k t : ℕ) → slice_get xs k ≡ None → IsGone k t → IsSplitByKey key xs k (t + 1)
    cut_end k t none gone = record { before = gone.before; behind = λ i y there le. absurd (past xs k none i y there le) }

    -- what has the key t among them
    module _ (test : X → Bool) (t : ℕ) (keyed : (x : X) → test x ≡ true → key x ≡ t) where
      pub none_yet : (k : ℕ) → IsSplitByKey key xs k t → filter test (take k xs) ≡ []
      none_yet k cut =
          none_passes test (take k xs)
          (λ x there is. (let w = among_first xs k x there in let early = cut.before w.0 x w.2 w.1 in let same = keyed x is in omega (arith, early, same)))

      pub none_left : (k : ℕ) → IsSplitByKey key xs k (t + 1) → filter test xs ≡ filter test (take k xs)
      none_left k cut =
          let rest : filter test (drop k xs) ≡ [] =
          none_passes test (drop k xs) (λ x there
          is. (let w = behind_first xs k x there in let late = cut.behind w.0 x w.2 w.1 in let same = keyed x is in omega (arith, late, same))) in
          ap (filter test) (sym (take-append-drop k xs)) ∙ filter-append test (take k xs) (drop k xs) ∙ ap (λ (ys : List X). filter test (take k xs) ++ ys) rest
          ∙ append-nil (filter test (take k xs))

    pub filter_more : (test : X → Bool) (k : ℕ) (x : X) → slice_get xs k ≡ Some x
        → filter test (take (k + 1) xs) ≡ filter test (take k xs) ++ (if test x then x ∷ [] else [])
    filter_more test k x at =
        let next : suc k ≡ k + 1 = omega arith in
        ap (filter test) (sym (one_more xs k x at ∙ ap (λ (n : ℕ). take n xs) next)) ∙ filter-append test (take k xs) (x ∷ [])
