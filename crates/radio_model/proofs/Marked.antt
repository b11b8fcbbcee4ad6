-- What the mark of a node tells of its transmissions, and how it changes with them.
use Rattle.std.proofs.Common.{◌≡◌, ℕ, zero, suc, ◌+◌, ◌-◌, ◌<◌, ◌≤◌, List, [], ◌∷◌, ◌++◌, length, drop, set, get_or, Bool, true, false, ◌&&◌, ◌==◌, nat_lt}
use Rattle.std.proofs.Common.{nat_le, Option, Some, None, option_to_list, refl, sym, ◌∙◌, ap, subst, arith, All, inl, inr, length-append, append-nil}
use Rattle.std.proofs.lemmas.Bool.{cases_lt, cases_eq, cond-false, cond_both, le-ltb, leb-true, and_parts, or_cases}
use Rattle.std.proofs.lemmas.List.{get_or-drop, length-drop, length-map, length-set, get_or-set_same, get_or-set_other, get_or_append_left}
use Rattle.std.proofs.lemmas.List.Elements.{All-weaker, All-drop}
use Rattle.std.proofs.lemmas.List.Folds.{list_any_none}
use Rattle.std.proofs.Math.Seq.{get_or-append_seam}
use Rattle.std.specs.List.{list_any}
use Rattle.lwb_base.specs.Profile.{Numbers}
use Rattle.radio_model.specs.Stations.{id_of_station, on_air, overlaps, station_after_tuning, tuning_in, tuning_out, is_tuned_to, station_after_end}
use Rattle.radio_model.specs.Stations.{stations_from}
use Rattle.radio_model.specs.Ages.{IsAged}
use Rattle.radio_model.specs.Marks.{IsMark, AreMarks, is_aside, next_mark}
use Rattle.radio_model.specs.Meetings.{rival_to, rivals_in}
use Rattle.radio_model.specs.declared.mark.Mark.{Mark}
use Rattle.radio_model.specs.declared.mark.Origin.{Origin}
use Rattle.radio_model.specs.declared.sending.Sending.{Sending}
use Rattle.radio_model.specs.declared.station.Station.{Station}
use Rattle.radio_model.specs.declared.tuning.RadioTuning.{RadioTuning}
use Rattle.radio_model.proofs.EndedSendings.{none_kept, first_false}
use Rattle.radio_model.proofs.Places.{nodes_from}

-- by a mark that is aside
module _ (x : Sending) (ys : List Sending) (mk : Mark) (is : IsMark ys mk) (aside : is_aside x.start x.end mk ≡ true) where
  pub apart : All (λ (y : Sending). overlaps x y ≡ false) ys
  apart k d below =
      let y = get_or ys k d in
      elim (or_cases (nat_le mk.end x.start) (nat_le mk.before x.start && nat_le x.end mk.start) aside) [
        | inl over ↦
            first_false (nat_lt x.start y.end) (nat_lt y.start x.end) (le-ltb x.start y.end (omega (arith, is.over k d below, leb-true mk.end x.start over)))
        | inr behind ↦
            let both = and_parts (nat_le mk.before x.start) (nat_le x.end mk.start) behind in
            let before = leb-true mk.before x.start both.0 in
            let later = leb-true x.end mk.start both.1 in
            elim (cases_lt (k + 1) (length ys)) [
              | inl earlier ↦ first_false (nat_lt x.start y.end) (nat_lt y.start x.end) (le-ltb x.start y.end (omega (arith, is.earlier k d earlier)))
              | inr last ↦ last_false (nat_lt x.start y.end) (nat_lt y.start x.end) (le-ltb y.start x.end (omega (arith, is.start k d (omega arith))))
            ]
      ]
    where
      last_false : (b c : Bool) → c ≡ false → (b && c) ≡ false
      last_false true c no_more = no_more
      last_false false c no_more = refl

  pub none_overlaps : list_any (overlaps x) ys ≡ false
  none_overlaps = list_any_none (overlaps x) ys apart

pub no_rivals_aside : (p : Numbers) (x : Sending) (st : Station) (mk : Mark) → IsMark (on_air st) mk → is_aside x.start x.end mk ≡ true → rivals_in p x st ≡ []
no_rivals_aside p x st mk is aside =
    none_kept (rival_to p x st) (on_air st)
    (All-weaker (λ (y : Sending). overlaps x y ≡ false) (λ (y : Sending). rival_to p x st y ≡ None)
    (λ y no_more. cond-false ((y.rank == x.rank) && overlaps x y) _ None (both_false (y.rank == x.rank) (overlaps x y) no_more))
    (on_air st) (apart x (on_air st) mk is aside))
  where
    both_false : (b c : Bool) → c ≡ false → (b && c) ≡ false
    both_false true c no_more = no_more
    both_false false c no_more = refl

-- the oldest are forgotten
pub mark_dropped : (n : ℕ) (ys : List Sending) (mk : Mark) → (0 < length ys → n < length ys) → IsMark ys mk → IsMark (drop n ys) mk
mark_dropped n ys mk some is = record {
  over = All-drop (λ (y : Sending). y.end ≤ mk.end) n ys is.over;
  earlier = λ k d below. subst (λ (y : Sending). y.end ≤ mk.before) (sym (get_or-drop n ys k d)) (is.earlier (n + k) d (omega (arith, length-drop n ys)));
  start = λ k d last. ap (λ (y : Sending). y.start) (get_or-drop n ys k d) ∙ is.start (n + k) d (omega (arith, length-drop n ys));
  end = λ k d last. ap (λ (y : Sending). y.end) (get_or-drop n ys k d) ∙ is.end (n + k) d (omega (arith, length-drop n ys));
  rank = λ k d last. ap (λ (y : Sending). y.rank) (get_or-drop n ys k d) ∙ is.rank (n + k) d (omega (arith, length-drop n ys));
  some = λ sent. let less = some (is.some sent) in omega (arith, length-drop n ys);
}

-- one more begins
pub mark_pushed : (now : ℕ) (ys : List Sending) (x : Sending) (origin : Origin) (mk : Mark) → IsAged now ys → now ≤ x.end → IsMark ys mk
    → IsMark (ys ++ x ∷ []) (next_mark x.rank x.start x.end origin mk)
mark_pushed now ys x origin mk aged later is = record {
  over = λ k d below. elim (cases_lt k (length ys)) [
    | inl inside ↦ subst (λ (y : Sending). y.end ≤ x.end) (sym (left k d inside)) (omega (arith, (aged.over k d inside).1))
    | inr last ↦ subst (λ (y : Sending). y.end ≤ x.end) (sym (seam k d (omega (arith, long)))) (omega arith)
  ];
  earlier = λ k d below. subst (λ (y : Sending). y.end ≤ mk.end) (sym (left k d (omega (arith, long)))) (is.over k d (omega (arith, long)));
  start = λ k d last. ap (λ (y : Sending). y.start) (seam k d (omega (arith, long)));
  end = λ k d last. ap (λ (y : Sending). y.end) (seam k d (omega (arith, long)));
  rank = λ k d last. ap (λ (y : Sending). y.rank) (seam k d (omega (arith, long)));
  some = λ sent. omega (arith, long);
}
  where
    long : length (ys ++ x ∷ []) ≡ length ys + 1
    long = length-append ys (x ∷ [])

    left : (k : ℕ) (d : Sending) → k < length ys → get_or (ys ++ x ∷ []) k d ≡ get_or ys k d
    left k d inside = get_or_append_left ys (x ∷ []) d k inside

    seam : (k : ℕ) (d : Sending) → k ≡ length ys → get_or (ys ++ x ∷ []) k d ≡ x
    seam k d here = ap (λ (n : ℕ). get_or (ys ++ x ∷ []) n d) here ∙ get_or-append_seam ys x [] d

-- a station that ends what it sends, or forgets
pub mark_finished : (st : Station) (mk : Mark) → st.ended.capacity ≡ 13 → IsMark (on_air st) mk → IsMark (on_air (station_after_end st)) mk
mark_finished st mk room is = by_sending st.sending refl
  where
    by_sending : (o : Option Sending) → st.sending ≡ o → IsMark (on_air (station_after_end st)) mk
    by_sending None none =
        subst (λ (o : Option Sending). IsMark (on_air (station_after_end (record st { sending = o }))) mk) (sym none)
        (subst (λ (o : Option Sending). IsMark (st.ended.items ++ option_to_list o) mk) none is)
    by_sending (Some x) some =
        subst (λ (o : Option Sending). IsMark (on_air (station_after_end (record st { sending = o }))) mk) (sym some)
        (subst (λ (l : List Sending). IsMark l mk) (sym (append-nil _))
        (mark_dropped (length (st.ended.items ++ x ∷ []) - st.ended.capacity) (st.ended.items ++ x ∷ []) mk (λ some. omega (arith, some, room))
        (subst (λ (o : Option Sending). IsMark (st.ended.items ++ option_to_list o) mk) some is)))

-- one station changes
pub marks_changed : (sts : List Station) (mks : List Mark) (i : ℕ) (new : Station) (mk : Mark) → AreMarks sts mks → IsMark (on_air new) mk
    → AreMarks (set sts i new) (set mks i mk)
marks_changed sts mks i new mk are is = record {
  one_each = length-set mks i mk ∙ are.one_each ∙ sym (length-set sts i new);
  each = λ k d e below. elim (cases_eq k i) [
    | inl here ↦
        subst (λ (n : ℕ). IsMark (on_air (get_or (set sts i new) n d)) (get_or (set mks i mk) n e)) (sym here)
        (subst (λ (st : Station). IsMark (on_air st) (get_or (set mks i mk) i e)) (sym (get_or-set_same sts i new d (omega (arith, length-set sts i new))))
        (subst (λ (m : Mark). IsMark (on_air new) m) (sym (get_or-set_same mks i mk e (omega (arith, length-set sts i new, are.one_each)))) is))
    | inr there ↦
        subst (λ (st : Station). IsMark (on_air st) (get_or (set mks i mk) k e)) (sym (get_or-set_other sts i k new d there))
        (subst (λ (m : Mark). IsMark (on_air (get_or sts k d)) m) (sym (get_or-set_other mks i k mk e there))
        (are.each k d e (omega (arith, length-set sts i new))))
  ];
}

-- its mark stays
pub marks_stay : (sts : List Station) (mks : List Mark) (i : ℕ) (new : Station) → AreMarks sts mks → ((e : Mark) → IsMark (on_air new) (get_or mks i e))
    → AreMarks (set sts i new) mks
marks_stay sts mks i new are is = record {
  one_each = are.one_each ∙ sym (length-set sts i new);
  each = λ k d e below. elim (cases_eq k i) [
    | inl here ↦
        subst (λ (n : ℕ). IsMark (on_air (get_or (set sts i new) n d)) (get_or mks n e)) (sym here)
        (subst (λ (st : Station). IsMark (on_air st) (get_or mks i e)) (sym (get_or-set_same sts i new d (omega (arith, length-set sts i new)))) (is e))
    | inr there ↦ subst (λ (st : Station). IsMark (on_air st) (get_or mks k e)) (sym (get_or-set_other sts i k new d there))
        (are.each k d e (omega (arith, length-set sts i new)))
  ];
}

pub retuned_on_air : (rank : Option ℕ) (t : ℕ) (st : Station) → on_air (station_after_tuning rank t st) ≡ on_air st
retuned_on_air None t st = refl
retuned_on_air (Some r) t st =
    cond_both (is_tuned_to st.tuning.now r) st.tuning (tuning_in r t (tuning_out t st.tuning))
    (λ (x : RadioTuning). on_air (record st { tuning = x }) ≡ on_air st) (λ _. refl) (λ _. refl)

-- at first nothing was sent, which any mark that ends at 0 fits
none_marked : (mk : Mark) → mk.end ≤ 0 → IsMark [] mk
none_marked mk none_yet = record {
  over = λ k d none. absurd (omega arith);
  earlier = λ k d none. absurd (omega arith);
  start = λ k d none. absurd (omega arith);
  end = λ k d none. absurd (omega arith);
  rank = λ k d none. absurd (omega arith);
  some = λ sent. absurd (omega arith);
}

pub silent_from : (k : ℕ) (vs : List ℕ) (i : ℕ) (d : Station) → i < length (stations_from k vs) → on_air (get_or (stations_from k vs) i d) ≡ []
silent_from k [] i d below = absurd (omega arith)
silent_from k (v ∷ vs) zero d below = refl
silent_from k (v ∷ vs) (suc i) d below = silent_from (k + 1) vs i d (omega arith)

pub marks_first : (vs : List ℕ) (mks : List Mark) → length mks ≡ length vs → ((k : ℕ) (e : Mark) → k < length vs → (get_or mks k e).end ≤ 0)
    → AreMarks (stations_from 0 vs) mks
marks_first vs mks same none = record {
  one_each = same ∙ sym long;
  each =
      λ k d e below. subst (λ (l : List Sending). IsMark l (get_or mks k e)) (sym (silent_from 0 vs k d below))
      (none_marked (get_or mks k e) (none k e (omega (arith, below, long))));
}
  where
    long : length (stations_from 0 vs) ≡ length vs
    long = sym (length-map (stations_from 0 vs) id_of_station) ∙ ap length (nodes_from 0 vs)
