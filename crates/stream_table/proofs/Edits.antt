-- What one entry's change does to the list.
use Rattle.std.proofs.Common.{◌≡◌, ◌≢◌, ℕ, zero, suc, List, [], ◌∷◌, set, map, filter_map, Option, Some, None, refl, ◌∙◌, ap, subst, arith, eq-eqb}
use Rattle.std.specs.List.{slice_get, remove}
use Rattle.std.proofs.lemmas.Bool.{ne_eqb}
use Rattle.bus_rules.specs.Tables.{TableEntry, EntriesAreAbove, EntriesAscend, entry_of, without}
use Rattle.stream_table.proofs.Order.{above_get, none_above, apart_from}

-- a change of the entries with the code c alone
module _ (f : TableEntry → TableEntry) (c : ℕ) (others : (e : TableEntry) → e.code ≢ c → f e ≡ e) where
  pub map_none : (es : List TableEntry) → entry_of es c ≡ None → map f es ≡ es
  map_none [] none = refl
  map_none (e ∷ es) none = let apart = apart_from c e es none in cc (others e apart.0, map_none es apart.1)

  pub map_at : (es : List TableEntry) (n : ℕ) (x : TableEntry) → EntriesAscend es → slice_get es n ≡ Some x → x.code ≡ c → map f es ≡ set es n (f x)
  map_at [] n x up at is = cc
  map_at (e ∷ es) zero x up at is =
      let same : e ≡ x = cc in
      let here : e.code ≡ c = ap (λ (y : TableEntry). y.code) same ∙ is in
      let rest = map_none es (subst (λ (d : ℕ). entry_of es d ≡ None) here (none_above e.code es up.0)) in
      cc (ap f same, rest)
  map_at (e ∷ es) (suc n) x up at is =
      let above = above_get e.code es n x up.0 at in
      let apart : e.code ≢ c = omega arith in
      cc (others e apart, map_at es n x up.1 at is)

-- a change that may take the entry away
module _ (g : TableEntry → Option TableEntry) (c : ℕ) (others : (e : TableEntry) → e.code ≢ c → g e ≡ Some e) where
  kept : (e : TableEntry) (es : List TableEntry) → e.code ≢ c → filter_map g (e ∷ es) ≡ e ∷ filter_map g es
  kept e es apart = rw (others e apart) refl

  pub sift_none : (es : List TableEntry) → entry_of es c ≡ None → filter_map g es ≡ es
  sift_none [] none = refl
  sift_none (e ∷ es) none = let apart = apart_from c e es none in kept e es apart.0 ∙ ap (λ (l : List TableEntry). e ∷ l) (sift_none es apart.1)

  rest_stays : (e : TableEntry) (es : List TableEntry) → e.code ≡ c → EntriesAreAbove e.code es → filter_map g es ≡ es
  rest_stays e es here above = sift_none es (subst (λ (d : ℕ). entry_of es d ≡ None) here (none_above e.code es above))

  pub sift_set : (es : List TableEntry) (n : ℕ) (x y : TableEntry) → EntriesAscend es → slice_get es n ≡ Some x → x.code ≡ c → g x ≡ Some y
      → filter_map g es ≡ set es n y
  sift_set [] n x y up at is gives = cc
  sift_set (e ∷ es) zero x y up at is gives =
      let same : e ≡ x = cc in
      let here : e.code ≡ c = ap (λ (z : TableEntry). z.code) same ∙ is in
      let head : g e ≡ Some y = ap g same ∙ gives in
      rw head (ap (λ (l : List TableEntry). y ∷ l) (rest_stays e es here up.0))
  sift_set (e ∷ es) (suc n) x y up at is gives =
      let above = above_get e.code es n x up.0 at in
      let apart : e.code ≢ c = omega arith in
      kept e es apart ∙ ap (λ (l : List TableEntry). e ∷ l) (sift_set es n x y up.1 at is gives)

  pub sift_remove : (es : List TableEntry) (n : ℕ) (x : TableEntry) → EntriesAscend es → slice_get es n ≡ Some x → x.code ≡ c → g x ≡ None
      → filter_map g es ≡ remove es n
  sift_remove [] n x up at is gives = cc
  sift_remove (e ∷ es) zero x up at is gives =
      let same : e ≡ x = cc in
      let here : e.code ≡ c = ap (λ (z : TableEntry). z.code) same ∙ is in
      let head : g e ≡ None = ap g same ∙ gives in
      rw head (rest_stays e es here up.0)
  sift_remove (e ∷ es) (suc n) x up at is gives =
      let above = above_get e.code es n x up.0 at in
      let apart : e.code ≢ c = omega arith in
      kept e es apart ∙ ap (λ (l : List TableEntry). e ∷ l) (sift_remove es n x up.1 at is gives)

-- the list without a code
pub without_none : (c : ℕ) (es : List TableEntry) → entry_of es c ≡ None → without c es ≡ es
without_none c [] none = refl
without_none c (e ∷ es) none =
    let apart = apart_from c e es none in
    rw (ne_eqb e.code c apart.0) (ap (λ (l : List TableEntry). e ∷ l) (without_none c es apart.1))

pub without_at : (c : ℕ) (es : List TableEntry) (n : ℕ) (x : TableEntry) → EntriesAscend es → slice_get es n ≡ Some x → x.code ≡ c → without c es ≡ remove es n
without_at c [] n x up at is = cc
without_at c (e ∷ es) zero x up at is =
    let same : e ≡ x = cc in
    let here : e.code ≡ c = ap (λ (z : TableEntry). z.code) same ∙ is in
    rw (eq-eqb e.code c here) (without_none c es (subst (λ (d : ℕ). entry_of es d ≡ None) here (none_above e.code es up.0)))
without_at c (e ∷ es) (suc n) x up at is =
    let above = above_get e.code es n x up.0 at in
    let apart : e.code ≢ c = omega arith in
    rw (ne_eqb e.code c apart) (ap (λ (l : List TableEntry). e ∷ l) (without_at c es n x up.1 at is))
