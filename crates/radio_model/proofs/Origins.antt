-- The newest transmissions keep their origins through a change of a station.
use Rattle.std.proofs.Common.{◌≡◌, ◌≢◌, ℕ, ◌+◌, ◌-◌, ◌<◌, ◌≤◌, ◌⊎◌, List, [], ◌∷◌, ◌++◌, length, drop, set, get_or, Option, Some, None, option_to_list, refl}
use Rattle.std.proofs.Common.{sym, ◌∙◌, ap, subst, arith, inl, inr, length-append, append-nil}
use Rattle.std.proofs.lemmas.Bool.{cases_eq}
use Rattle.std.proofs.lemmas.List.{get_or-drop, length-drop, length-set, get_or-set_same, get_or-set_other, get_or_default}
use Rattle.std.proofs.Math.Seq.{get_or-append_seam}
use Rattle.radio_model.specs.Stations.{on_air, station_after_end, stations_from}
use Rattle.radio_model.specs.Marks.{IsNewest, StandAtPlace, HasSent, AreAlike, AreAlikeTo}
use Rattle.radio_model.specs.declared.mark.Mark.{Mark}
use Rattle.radio_model.specs.declared.mark.Origin.{Origin}
use Rattle.radio_model.specs.declared.sending.Sending.{Sending}
use Rattle.radio_model.specs.declared.station.Station.{Station}
use Rattle.radio_model.proofs.Marked.{silent_from}

-- the newest of a list with one more, and of a list whose oldest are forgotten
module _ (ys : List Sending) where
  pub pushed_is_newest : (x : Sending) → IsNewest (ys ++ x ∷ []) x
  pushed_is_newest x = record { place = length ys; last = sym (length-append ys (x ∷ [])); there = get_or-append_seam ys x [] x }

  pub newest_pushed : (x y : Sending) → IsNewest (ys ++ x ∷ []) y → y ≡ x
  newest_pushed x y is =
      let here : is.place ≡ length ys = omega (arith, is.last, length-append ys (x ∷ [])) in
      sym is.there ∙ ap (λ (n : ℕ). get_or (ys ++ x ∷ []) n y) here ∙ get_or-append_seam ys x [] y

  pub newest_dropped : (n : ℕ) (y : Sending) → IsNewest (drop n ys) y → IsNewest ys y
  newest_dropped n y is = record { place = n + is.place; last = omega (arith, is.last, length-drop n ys); there = sym (get_or-drop n ys is.place y) ∙ is.there }

  pub newest_after_drop : (n : ℕ) (y : Sending) → n < length ys → IsNewest ys y → IsNewest (drop n ys) y
  newest_after_drop n y some is =
      let place = is.place in
      let last = is.last in
      let at : n + (place - n) ≡ place = omega arith in
      record { place = place - n; last = omega (arith, length-drop n ys); there = get_or-drop n ys (place - n) y ∙ ap (λ (k : ℕ). get_or ys k y) at ∙ is.there }

-- what is at a place after one station and its mark changed
module _ (sts : List Station) (mks : List Mark) (i : ℕ) (new : Station) (mk : Mark) (below : i < length sts) (one_each : length mks ≡ length sts) where
  pub record IsNew (j : ℕ) (su : Station) (ml : Mark) : Type 0 where
    pub place : j ≡ i
    pub station : su ≡ new
    pub mark : ml ≡ mk

  pub stands_then : (j : ℕ) (su : Station) (ml : Mark) → StandAtPlace (set sts i new) (set mks i mk) j su ml
      → IsNew j su ml ⊎ ((j ≢ i) × StandAtPlace sts mks j su ml)
  stands_then j su ml is =
      elim (cases_eq j i) [
        | inl here ↦ inl (record {
          place = here;
          station = sym is.station ∙ ap (λ (n : ℕ). get_or (set sts i new) n su) here ∙ get_or-set_same sts i new su below;
          mark = sym is.mark ∙ ap (λ (n : ℕ). get_or (set mks i mk) n ml) here ∙ get_or-set_same mks i mk ml (omega (arith, below, one_each));
        })
        | inr other ↦ inr (
          other,
          record {
            below = omega (arith, is.below, length-set sts i new);
            station = sym (get_or-set_other sts i j new su other) ∙ is.station;
            mark = sym (get_or-set_other mks i j mk ml other) ∙ is.mark;
          },
        )
      ]

-- a station changed, and its newest transmission did not
module _ (now t : ℕ) (sts : List Station) (mks : List Mark) (i : ℕ) (old new : Station) (below : i < length sts) (at : old ≡ get_or sts i old)
    (node : new.node ≡ old.node)
    (on : (y : Sending) → IsNewest (on_air new) y → IsNewest (on_air old) y) (back : (y : Sending) → IsNewest (on_air old) y → IsNewest (on_air new) y)
    (later : now ≤ t) (is : AreAlike now sts mks) where
  record Was (j : ℕ) (su : Station) (ml : Mark) : Type 0 where
    so : Station
    stood : StandAtPlace sts mks j so ml
    node_is : su.node ≡ so.node
    newest : (y : Sending) → IsNewest (on_air su) y → IsNewest (on_air so) y

  was : (j : ℕ) (su : Station) (ml : Mark) → StandAtPlace (set sts i new) mks j su ml → Was j su ml
  was j su ml stands =
      elim (cases_eq j i) [
        | inl here ↦
            let su_is : su ≡ new = sym stands.station ∙ ap (λ (n : ℕ). get_or (set sts i new) n su) here ∙ get_or-set_same sts i new su below in
            record {
              so = old;
              stood = record {
                below = omega (arith, stands.below, length-set sts i new);
                station = ap (λ (n : ℕ). get_or sts n old) here ∙ sym at;
                mark = stands.mark;
              };
              node_is = ap (λ (s : Station). s.node) su_is ∙ node;
              newest = λ y newest. on y (subst (λ (s : Station). IsNewest (on_air s) y) su_is newest);
            }
        | inr other ↦ record {
          so = su;
          stood = record {
            below = omega (arith, stands.below, length-set sts i new);
            station = sym (get_or-set_other sts i j new su other) ∙ stands.station;
            mark = stands.mark;
          };
          node_is = refl;
          newest = λ y newest. newest;
        }
      ]

  sent_still : (o : Origin) → HasSent sts o → HasSent (set sts i new) o
  sent_still o h =
      elim (cases_eq o.place i) [
        | inl here ↦
            let own : h.station ≡ old = sym h.there ∙ ap (λ (n : ℕ). get_or sts n h.station) here ∙ get_or_default sts i h.station old below ∙ sym at in
            record {
              station = new;
              below = omega (arith, h.below, length-set sts i new);
              there = ap (λ (n : ℕ). get_or (set sts i new) n new) here ∙ get_or-set_same sts i new new below;
              newest = h.newest;
              is = back h.newest (subst (λ (s : Station). IsNewest (on_air s) h.newest) own h.is);
              since = h.since;
            }
        | inr other ↦ record {
          station = h.station;
          below = omega (arith, h.below, length-set sts i new);
          there = get_or-set_other sts i o.place new h.station other ∙ h.there;
          newest = h.newest;
          is = h.is;
          since = h.since;
        }
      ]

  pub alike_kept : AreAlike t (set sts i new) mks
  alike_kept = record {
    own = λ j su ml y stands newest.
        let w = was j su ml stands in
        let old_own = is.own j w.so ml y w.stood (w.newest y newest) in
        (old_own.0 ∙ sym w.node_is, omega (arith, old_own.1, later));
    known = λ j su ml y stands newest.
        let w = was j su ml stands in
        sent_still ml.origin (is.known j w.so ml y w.stood (w.newest y newest));
    alike = λ j k su sv ml mm y z left right y_is z_is same meets.
        let v = was j su ml left in
        let w = was k sv mm right in
        is.alike j k v.so w.so ml mm y z v.stood w.stood (v.newest y y_is) (w.newest z z_is) same meets;
  }

-- the newest transmission stays the newest as it ends
record Drops (st : Station) : Type 0 where
  count : ℕ
  is : on_air (station_after_end st) ≡ drop count (on_air st)
  some : 0 < length (on_air st) → count < length (on_air st)

finished_drops : (st : Station) → st.ended.capacity ≡ 13 → Drops st
finished_drops st room = by_sending st.sending refl
  where
    by_sending : (o : Option Sending) → st.sending ≡ o → Drops st
    by_sending None none = record {
      count = 0;
      is =
          ap (λ (o : Option Sending). on_air (station_after_end (record st { sending = o }))) none
          ∙ ap (λ (o : Option Sending). st.ended.items ++ option_to_list o) (sym none);
      some = λ some. some;
    }
    by_sending (Some x) some =
        let all : on_air st ≡ st.ended.items ++ x ∷ [] = ap (λ (o : Option Sending). st.ended.items ++ option_to_list o) some in
        record {
          count = length (st.ended.items ++ x ∷ []) - st.ended.capacity;
          is = ap (λ (o : Option Sending). on_air (station_after_end (record st { sending = o }))) some ∙ append-nil _
              ∙ ap (drop (length (st.ended.items ++ x ∷ []) - st.ended.capacity)) (sym all);
          some = λ any. omega (arith, any, ap length all, room);
        }

pub newest_finished : (st : Station) → st.ended.capacity ≡ 13 → (y : Sending) → IsNewest (on_air (station_after_end st)) y → IsNewest (on_air st) y
newest_finished st room y newest =
    let d = finished_drops st room in
    newest_dropped (on_air st) d.count y (subst (λ (l : List Sending). IsNewest l y) d.is newest)

pub newest_unfinished : (st : Station) → st.ended.capacity ≡ 13 → (y : Sending) → IsNewest (on_air st) y → IsNewest (on_air (station_after_end st)) y
newest_unfinished st room y newest =
    let d = finished_drops st room in
    subst (λ (l : List Sending). IsNewest l y) (sym d.is) (newest_after_drop (on_air st) d.count y (d.some (omega (arith, newest.last))) newest)

-- at first nothing was sent
pub alike_first : (vs : List ℕ) (mks : List Mark) → AreAlike 0 (stations_from 0 vs) mks
alike_first vs mks = record {
  own = λ i st mk y stands newest. absurd (none i st mk y stands newest);
  known = λ i st mk y stands newest. absurd (none i st mk y stands newest);
  alike = λ i j st su mk ml y z left right y_is z_is same meets. absurd (none i st mk y left y_is);
}
  where
    none : (i : ℕ) (st : Station) (mk : Mark) (y : Sending) → StandAtPlace (stations_from 0 vs) mks i st mk → IsNewest (on_air st) y → ⊥
    none i st mk y stands newest =
        let silent : on_air st ≡ [] = ap on_air (sym stands.station) ∙ silent_from 0 vs i st stands.below in
        omega (arith, newest.last, ap length silent)

-- what is alike is alike to what runs
pub alike_to : (now : ℕ) (sts : List Station) (mks : List Mark) (i : ℕ) (st : Station) (mk : Mark) (x : Sending) → AreAlike now sts mks
    → StandAtPlace sts mks i st mk → st.sending ≡ Some x → AreAlikeTo sts mks mk.origin x
alike_to now sts mks i st mk x are stands runs j su ml right y newest =
    let x_is : IsNewest (on_air st) x =
    subst (λ (o : Option Sending). IsNewest (st.ended.items ++ option_to_list o) x) (sym runs) (pushed_is_newest st.ended.items x) in (
      (are.own j su ml y right newest).0,
      λ same meets. are.alike j i su st ml mk y x right stands newest x_is same (record { before = meets.after; after = meets.before }),
    )
