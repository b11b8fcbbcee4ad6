-- The ended transmissions that a node keeps are by their ends, so a look at the newest tells what came of all.
use Rattle.std.proofs.Common.{◌≡◌, ℕ, zero, suc, ◌+◌, ◌-◌, ◌<◌, ◌≤◌, inl, inr, List, [], ◌∷◌, ◌++◌, length, take, drop, set, get_or, Bool, true, false}
use Rattle.std.proofs.Common.{◌&&◌, ◌==◌, nat_lt, Option, Some, None, filter_map, refl, sym, ◌∙◌, ap, subst, arith, All, length-append}
use Rattle.std.proofs.lemmas.Bool.{cases_lt, cond_both, cond-false, lt-ltb, le-ltb, and_from}
use Rattle.std.proofs.lemmas.List.{get_or-take, get_or-drop, length-take, length-drop, get_or_append_left}
use Rattle.std.proofs.Math.Seq.{get_or-append_seam}
use Rattle.std.proofs.lemmas.List.Elements.{All-nil, All-cons, All-head, All-tail, All-push, All-drop, All-set, All-weaker}
use Rattle.std.proofs.lemmas.List.Folds.{list_any_none}
use Rattle.std.proofs.lemmas.Option.{slice_get-get_or, get_or_from_slice_get, slice_get_within}
use Rattle.std.specs.List.{cons_option, list_any, slice_get}
use Rattle.circular_buffer.specs.Buffer.{Buffer}
use Rattle.lwb_base.specs.Profile.{Numbers}
use Rattle.radio_model.specs.Stations.{overlaps, station_after_tuning, tuning_in, tuning_out, is_tuned_to, station_after_end, fresh, stations_from}
use Rattle.radio_model.specs.Ages.{IsAged, ByEnd}
use Rattle.radio_model.specs.Meetings.{rival_to}
use Rattle.radio_model.specs.declared.sending.Sending.{Sending}
use Rattle.radio_model.specs.declared.station.Station.{Station}
use Rattle.radio_model.specs.declared.tuning.RadioTuning.{RadioTuning}
use Rattle.lwb_base.proofs.Elements.{any_of}

pub none_kept : {X Y : Type 0} (f : X → Option Y) (xs : List X) → All (λ (x : X). f x ≡ None) xs → filter_map f xs ≡ []
none_kept f [] all = refl
none_kept {X} {Y} f (x ∷ xs) all =
    ap (λ (o : Option Y). cons_option o (filter_map f xs)) (All-head (λ (z : X). f z ≡ None) x xs all)
    ∙ none_kept f xs (All-tail (λ (z : X). f z ≡ None) x xs all)

pub second_false : (a b c : Bool) → b ≡ false → (a && (b && c)) ≡ false
second_false true false c is = refl
second_false false false c is = refl
second_false a true c is = cc

pub first_false : (b c : Bool) → b ≡ false → (b && c) ≡ false
first_false false c is = refl
first_false true c is = cc

-- what was over when x began is no rival of x
module _ (p : Numbers) (x : Sending) (st : Station) where
  over_is_none : (y : Sending) → y.end ≤ x.start → rival_to p x st y ≡ None
  over_is_none y over =
      cond-false ((y.rank == x.rank) && overlaps x y) _ None
      (second_false (y.rank == x.rank) (nat_lt x.start y.end) (nat_lt y.start x.end) (le-ltb x.start y.end over))

  pub no_rivals : (ys : List Sending) → All (λ (y : Sending). y.end ≤ x.start) ys → filter_map (rival_to p x st) ys ≡ []
  no_rivals ys all =
      none_kept (rival_to p x st) ys (All-weaker (λ (y : Sending). y.end ≤ x.start) (λ (y : Sending). rival_to p x st y ≡ None) over_is_none ys all)

same_ends : (ys : List Sending) (k : ℕ) (d e : Sending) → k < length ys → (get_or ys k d).end ≡ (get_or ys k e).end
same_ends [] k d e below = absurd (omega arith)
same_ends (y ∷ ys) zero d e below = refl
same_ends (y ∷ ys) (suc k) d e below = same_ends ys k d e (omega arith)

-- where one was over by this tick, all up to it were
pub over_up_to : (ys : List Sending) (n start : ℕ) (y : Sending) → ByEnd ys → n < length ys → y ≡ get_or ys n y → y.end ≤ start
    → All (λ (z : Sending). z.end ≤ start) (take (n + 1) ys)
over_up_to ys n start y by_end below at over k d inside =
    let short : k < n + 1 = omega (arith, length-take (n + 1) ys) in
    subst (λ (z : Sending). z.end ≤ start) (sym (get_or-take (n + 1) ys k d short))
    (elim (cases_lt k n) [
      | inl before ↦ omega (arith, by_end k n d before below, same_ends ys n d y below, ap (λ (z : Sending). z.end) at)
      | inr not_before ↦
          let here : k ≡ n = omega arith in
          omega (arith, ap (λ (i : ℕ). (get_or ys i d).end) here, same_ends ys n d y below, ap (λ (z : Sending). z.end) at)
    ])

-- the newest tells whether one of them overlaps a transmission that ends now or later
module _ (x : Sending) (ys : List Sending) (aged : IsAged x.end ys) where
  pub newest_tells : (y : Sending) → slice_get ys (length ys - 1) ≡ Some y → nat_lt x.start y.end ≡ list_any (overlaps x) ys
  newest_tells y is =
      let some : length ys - 1 < length ys = slice_get_within ys (length ys - 1) y is in
      let at : get_or ys (length ys - 1) y ≡ y = get_or_from_slice_get ys (length ys - 1) y y is in
      elim (cases_lt x.start y.end) [
        | inl goes_over ↦
            let began : y.start < x.end = subst (λ (z : Sending). z.start < x.end) at (aged.over (length ys - 1) y some).0 in
            lt-ltb x.start y.end goes_over
            ∙ sym (any_of (overlaps x) ys y (length ys - 1, some, at)
            (and_from (nat_lt x.start y.end) (nat_lt y.start x.end) (lt-ltb x.start y.end goes_over) (lt-ltb y.start x.end began)))
        | inr over ↦
            le-ltb x.start y.end over
            ∙ sym (list_any_none (overlaps x) ys (λ k d below.
            let z = get_or ys k d in
            first_false (nat_lt x.start z.end) (nat_lt z.start x.end) (le-ltb x.start z.end
            (elim (cases_lt k (length ys - 1)) [
              | inl before ↦ omega (arith, aged.by_end k (length ys - 1) d before some, same_ends ys (length ys - 1) d y some, ap (λ (w : Sending). w.end) at)
              | inr last ↦
                  let here : k ≡ length ys - 1 = omega arith in
                  omega (arith, ap (λ (i : ℕ). (get_or ys i d).end) here, same_ends ys (length ys - 1) d y some, ap (λ (w : Sending). w.end) at)
            ]))))
      ]

pub none_tells : (x : Sending) (ys : List Sending) → slice_get ys (length ys - 1) ≡ None → false ≡ list_any (overlaps x) ys
none_tells x [] is = refl
none_tells x (y ∷ ys) is =
    let some : Some (get_or (y ∷ ys) (length (y ∷ ys) - 1) y) ≡ None = sym (slice_get-get_or (y ∷ ys) (length (y ∷ ys) - 1) y (omega arith)) ∙ is in
    cc

-- as time passes
pub aged_later : (now t : ℕ) (ys : List Sending) → now ≤ t → IsAged now ys → IsAged t ys
aged_later now t ys later is = record {
  over = λ k d below. let by = is.over k d below in (omega (arith, by.0), omega (arith, by.1));
  by_end = is.by_end;
}

abbrev Aged : ℕ → Station → Type 0
Aged now st = IsAged now st.ended.items

pub all_aged_later : (now t : ℕ) (sts : List Station) → now ≤ t → All (λ (st : Station). IsAged now st.ended.items) sts
    → All (λ (st : Station). IsAged t st.ended.items) sts
all_aged_later now t sts later all = All-weaker (Aged now) (Aged t) (λ st is. aged_later now t st.ended.items later is) sts all

-- a station changed in its place
pub aged_changed : (now t i : ℕ) (sts : List Station) (new : Station) → now ≤ t → All (λ (st : Station). IsAged now st.ended.items) sts
    → IsAged t new.ended.items → All (λ (st : Station). IsAged t st.ended.items) (set sts i new)
aged_changed now t i sts new later all is = All-set (Aged t) sts i new is (all_aged_later now t sts later all)

pub aged_same : (now t i : ℕ) (sts : List Station) (old new : Station) → now ≤ t → All (λ (st : Station). IsAged now st.ended.items) sts → i < length sts
    → old ≡ get_or sts i old → new.ended ≡ old.ended
    → All (λ (st : Station). IsAged t st.ended.items) (set sts i new)
aged_same now t i sts old new later all below at same =
    aged_changed now t i sts new later all
    (subst (λ (b : Buffer Sending). IsAged t b.items) (ap (λ (st : Station). st.ended) (sym at) ∙ sym same)
    (aged_later now t (get_or sts i old).ended.items later (all i old below)))

pub retuned_ended : (rank : Option ℕ) (t : ℕ) (st : Station) → (station_after_tuning rank t st).ended ≡ st.ended
retuned_ended None t st = refl
retuned_ended (Some r) t st =
    cond_both (is_tuned_to st.tuning.now r) st.tuning (tuning_in r t (tuning_out t st.tuning))
    (λ (x : RadioTuning). (record st { tuning = x }).ended ≡ st.ended) (λ _. refl) (λ _. refl)

aged_none : IsAged 0 []
aged_none = record { over = λ j e none. absurd (omega arith); by_end = λ a b e less none. absurd (omega arith) }

pub aged_first : (k : ℕ) (vs : List ℕ) → All (λ (st : Station). IsAged 0 st.ended.items) (stations_from k vs)
aged_first k [] = All-nil (Aged 0)
aged_first k (v ∷ vs) = All-cons (Aged 0) (fresh v k) (stations_from (k + 1) vs) aged_none (aged_first (k + 1) vs)

-- one more that ended last
pushed : (t : ℕ) (ys : List Sending) (x : Sending) → IsAged t ys → x.start < t → x.end ≡ t → IsAged t (ys ++ x ∷ [])
pushed t ys x is began ends = record {
  over = All-push (λ (y : Sending). (y.start < t) × (y.end ≤ t)) ys x is.over (began, omega arith);
  by_end = λ i j d less below.
      let short = length-append ys (x ∷ []) in
      let low : get_or (ys ++ x ∷ []) i d ≡ get_or ys i d = get_or_append_left ys (x ∷ []) d i (omega arith) in
      elim (cases_lt j (length ys)) [
        | inl inside ↦
            subst (λ (z : Sending). z.end ≤ (get_or (ys ++ x ∷ []) j d).end) (sym low)
            (subst (λ (z : Sending). (get_or ys i d).end ≤ z.end) (sym (get_or_append_left ys (x ∷ []) d j inside)) (is.by_end i j d less inside))
        | inr last ↦
            let here : j ≡ length ys = omega arith in
            let at : get_or (ys ++ x ∷ []) j d ≡ x = ap (λ (n : ℕ). get_or (ys ++ x ∷ []) n d) here ∙ get_or-append_seam ys x [] d in
            let by = is.over i d (omega arith) in
            omega (arith, by.1, ap (λ (z : Sending). z.end) low, ap (λ (z : Sending). z.end) at)
      ];
}

dropped : (t n : ℕ) (ys : List Sending) → IsAged t ys → IsAged t (drop n ys)
dropped t n ys is = record {
  over = All-drop (λ (y : Sending). (y.start < t) × (y.end ≤ t)) n ys is.over;
  by_end = λ i j d less below.
      subst (λ (z : Sending). z.end ≤ (get_or (drop n ys) j d).end) (sym (get_or-drop n ys i d))
      (subst (λ (z : Sending). (get_or ys (n + i) d).end ≤ z.end) (sym (get_or-drop n ys j d))
      (is.by_end (n + i) (n + j) d (omega arith) (omega (arith, length-drop n ys))));
}

-- the transmission of a station ends at t
pub aged_finished : (t : ℕ) (st : Station) (x : Sending) → IsAged t st.ended.items → st.sending ≡ Some x → x.start < t → x.end ≡ t
    → IsAged t (station_after_end st).ended.items
aged_finished t st x is runs began ends =
    subst (λ (o : Option Sending). IsAged t (station_after_end (record st { sending = o })).ended.items) (sym runs)
    (dropped t (length (st.ended.items ++ x ∷ []) - st.ended.capacity) (st.ended.items ++ x ∷ []) (pushed t st.ended.items x is began ends))
