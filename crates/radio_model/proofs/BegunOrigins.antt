-- Another transmission that begins has an origin, and the newest transmissions stay alike.
use Rattle.std.proofs.Common.{◌≡◌, ℕ, ◌+◌, ◌<◌, ◌≤◌, List, [], ◌∷◌, ◌++◌, length, set, get_or, true, ◌&&◌, nat_lt, Option, Some, None, option_to_list, refl}
use Rattle.std.proofs.Common.{sym, ◌∙◌, ap, subst, arith, inl, inr, is_some, is_none, append-nil}
use Rattle.std.proofs.lemmas.Bool.{cases_eq, and_parts, ltb-true, false≢true}
use Rattle.std.proofs.lemmas.List.{length-set, get_or-set_same, get_or-set_other, get_or_default}
use Rattle.std.proofs.lemmas.Slice.Eq.{bytes_eq-Decides}
use Rattle.std.specs.Str.{bytes_eq}
use Rattle.lwb_base.specs.Profile.{Numbers, airtime}
use Rattle.radio_model.specs.Hearing.{Meets}
use Rattle.radio_model.specs.Stations.{on_air, begins_on, station_after_start, current_or_next, next_sending}
use Rattle.radio_model.specs.Ages.{IsAged}
use Rattle.radio_model.specs.Marks.{IsMark, AreMarks, IsNewest, StandAtPlace, HasSent, AreAlike, Joins, IsOrigin, next_mark, next_marks, no_mark, sends_packet}
use Rattle.radio_model.specs.declared.mark.Mark.{Mark}
use Rattle.radio_model.specs.declared.mark.Origin.{Origin}
use Rattle.radio_model.specs.declared.sending.Sending.{Sending}
use Rattle.radio_model.specs.declared.station.Station.{Station}
use Rattle.radio_model.specs.declared.tuning.Tuned.{Tuned}
use Rattle.radio_model.proofs.Marked.{mark_pushed, marks_changed, marks_stay}
use Rattle.radio_model.proofs.Origins.{pushed_is_newest, newest_pushed, stands_then, alike_kept}

-- another transmission begins
module _ (now t end : ℕ) (sts : List Station) (mks : List Mark) (i : ℕ) (old new : Station) (x : Sending) (origin : Origin) (below : i < length sts)
    (at : old ≡ get_or sts i old) (node : new.node ≡ old.node)
    (silent : on_air old ≡ old.ended.items) (sends : on_air new ≡ old.ended.items ++ x ∷ []) (x_node : x.node ≡ old.node) (x_start : x.start ≡ t)
    (aged : IsAged now old.ended.items) (later : now ≤ t) (one_each : length mks ≡ length sts) (from : IsOrigin sts mks i t x.packet origin)
    (is : AreAlike now sts mks) where
  abbrev mk : Mark
  mk = next_mark x.rank t end origin (get_or mks i no_mark)

  x_newest : IsNewest (on_air new) x
  x_newest = subst (λ (l : List Sending). IsNewest l x) (sym sends) (pushed_is_newest old.ended.items x)

  only_x : (su : Station) (y : Sending) → su ≡ new → IsNewest (on_air su) y → y ≡ x
  only_x su y su_is newest = newest_pushed old.ended.items x y (subst (λ (l : List Sending). IsNewest l y) sends (subst (λ (s : Station). IsNewest (on_air
      s) y) su_is newest))

  began : (h : Origin) → (s : HasSent sts h) → s.newest.start ≤ now
  began h s =
      (is.own h.place s.station (get_or mks h.place no_mark) s.newest
      (record {
        below = s.below;
        station = s.there;
        mark = get_or_default mks h.place (get_or mks h.place no_mark) no_mark (omega (arith, s.below, one_each));
      }) s.is).1

  sent_on : (o : Origin) → HasSent sts o → HasSent (set sts i new) o
  sent_on o h =
      elim (cases_eq o.place i) [
        | inl here ↦ record {
          station = new;
          below = omega (arith, h.below, length-set sts i new);
          there = ap (λ (n : ℕ). get_or (set sts i new) n new) here ∙ get_or-set_same sts i new new below;
          newest = x;
          is = x_newest;
          since = omega (arith, h.since, began o h, later, x_start);
        }
        | inr other ↦ record {
          station = h.station;
          below = omega (arith, h.below, length-set sts i new);
          there = get_or-set_other sts i o.place new h.station other ∙ h.there;
          newest = h.newest;
          is = h.is;
          since = h.since;
        }
      ]

  own_sent : HasSent (set sts i new) (record { place = i; start = t })
  own_sent = record {
    station = new;
    below = omega (arith, below, length-set sts i new);
    there = get_or-set_same sts i new new below;
    newest = x;
    is = x_newest;
    since = omega (arith, x_start);
  }

  origin_known : HasSent (set sts i new) origin
  origin_known =
      elim from [
        | inl own ↦ subst (HasSent (set sts i new)) (sym own) own_sent
        | inr j ↦ subst (HasSent (set sts i new)) j.origin (sent_on j.mark.origin (is.known j.place j.station j.mark j.newest j.stands j.is))
      ]

  -- its station has sent nothing at t
  fresh_start : HasSent sts (record { place = i; start = t }) → ⊥
  fresh_start h =
      let own : h.station ≡ old = sym h.there ∙ get_or_default sts i h.station old below ∙ sym at in
      let newest : IsNewest old.ended.items h.newest = subst (λ (l : List Sending). IsNewest l h.newest) silent (subst (λ (s : Station). IsNewest (on_air
      s) h.newest) own h.is) in
      let before = (aged.over newest.place h.newest (omega (arith, newest.last))).0 in
      omega (arith, before, ap (λ (y : Sending). y.start) newest.there, h.since, later)

  same_as_x : (j : ℕ) (su : Station) (ml : Mark) (z : Sending) → StandAtPlace sts mks j su ml → IsNewest (on_air su) z → origin ≡ ml.origin → Meets x z
      → x.packet ≡ z.packet
  same_as_x j su ml z stands newest same meets =
      let z_began = (is.own j su ml z stands newest).1 in
      let before = meets.before in
      elim from [
        | inl own ↦ absurd (fresh_start (subst (HasSent sts) (sym same ∙ own) (is.known j su ml z stands newest)))
        | inr w ↦
            let w_began = (is.own w.place w.station w.mark w.newest w.stands w.is).1 in
            let runs = w.runs in
            let both : Meets w.newest z = record { before = omega (arith, w_began, later, x_start, before); after = omega (arith, z_began, later, runs) } in
            sym w.same ∙ is.alike w.place j w.station su w.mark ml w.newest z w.stands stands w.is newest (w.origin ∙ same) both
      ]

  meets_back : (y z : Sending) → Meets y z → Meets z y
  meets_back y z m = record { before = m.after; after = m.before }

  pub alike_started : AreAlike t (set sts i new) (set mks i mk)
  alike_started = record {
    own = λ j su ml y stands newest. elim (stands_then sts mks i new mk below one_each j su ml stands) [
      | inl one ↦
          let y_is = only_x su y one.station newest in (
            ap (λ (z : Sending). z.node) y_is ∙ x_node ∙ sym node
                ∙ sym (ap (λ (s : Station). s.node) one.station),
            omega (arith, ap (λ (z : Sending). z.start) y_is, x_start),
          )
      | inr other ↦ let old_own = is.own j su ml y other.1 newest in (old_own.0, omega (arith, old_own.1, later))
    ];
    known = λ j su ml y stands newest. elim (stands_then sts mks i new mk below one_each j su ml stands) [
      | inl one ↦ subst (HasSent (set sts i new)) (sym (ap (λ (m : Mark). m.origin) one.mark)) origin_known
      | inr other ↦ sent_on ml.origin (is.known j su ml y other.1 newest)
    ];
    alike = λ j k su sv ml mm y z left right y_is z_is same meets. elim (stands_then sts mks i new mk below one_each j su ml left) [
      | inl one ↦
          let y_x = only_x su y one.station y_is in
          elim (stands_then sts mks i new mk below one_each k sv mm right) [
            | inl two ↦ ap (λ (w : Sending). w.packet) (y_x ∙ sym (only_x sv z two.station z_is))
            | inr other ↦
                ap (λ (w : Sending). w.packet) y_x
                ∙ same_as_x k sv mm z other.1 z_is (sym (ap (λ (m : Mark). m.origin) one.mark) ∙ same) (subst (λ (w : Sending). Meets w z) y_x meets)
          ]
      | inr first ↦ elim (stands_then sts mks i new mk below one_each k sv mm right) [
        | inl two ↦
            let z_x = only_x sv z two.station z_is in
            sym (same_as_x j su ml y first.1 y_is (sym (ap (λ (m : Mark). m.origin) two.mark) ∙ sym same)
            (meets_back y x (subst (λ (w : Sending). Meets y w) z_x meets)))
            ∙ ap (λ (w : Sending). w.packet) (sym z_x)
        | inr other ↦ is.alike j k su sv ml mm y z first.1 other.1 y_is z_is same meets
      ]
    ];
  }

pub can_start : (o : Option Tuned) (s : Option Sending) (r : ℕ) → Some r ≡ begins_on o s → (u : Tuned) × (o ≡ Some u) × (s ≡ None) × (u.rank ≡ r)
can_start (Some u) None r is = (u, refl, refl, some_is u.rank r (sym is))
  where
    some_is : (a b : ℕ) → (let q : Option ℕ = Some a in q ≡ Some b) → a ≡ b
    some_is a b is = cc
can_start (Some u) (Some x) r is = absurd (false≢true (sym (ap is_some is)))
can_start None s r is = absurd (false≢true (sym (ap is_some is)))

pub can't_start : (o : Option Tuned) (s : Option Sending) (p : Numbers) (t : ℕ) (packet : List ℕ) (v : ℕ) → None ≡ begins_on o s
    → current_or_next s (next_sending p t packet v o) ≡ s
can't_start (Some u) None p t packet v is = absurd (false≢true (ap is_some is))
can't_start (Some u) (Some x) p t packet v is = refl
can't_start None None p t packet v is = refl
can't_start None (Some x) p t packet v is = refl

pub begins_if : (o : Option Tuned) (s : Option Sending) → is_some (begins_on o s) ≡ (is_some o && is_none s)
begins_if None s = refl
begins_if (Some o) None = refl
begins_if (Some o) (Some x) = refl

-- a station starts to send, or can't
module _ (p : Numbers) (now t end : ℕ) (packet : List ℕ) (sts : List Station) (mks : List Mark) (i : ℕ) (old new : Station) (origin : Origin)
    (below : i < length sts) (at : old ≡ get_or sts i old)
    (is_started : new ≡ station_after_start p t packet old) (end_is : end ≡ t + airtime p (length packet)) (aged : IsAged now old.ended.items) (later : now ≤ t)
    (are : AreMarks sts mks) (alike : AreAlike now sts mks) (from : IsOrigin sts mks i t packet origin) where
  abbrev raised : Option ℕ → List Mark
  raised o = next_marks o t end origin i mks no_mark

  node : new.node ≡ old.node
  node = ap (λ (s : Station). s.node) is_started

  was_marked : (e : Mark) → IsMark (on_air old) (get_or mks i e)
  was_marked e = subst (λ (s : Station). IsMark (on_air s) (get_or mks i e)) (sym at) (are.each i old e below)

  on_air_is : on_air new ≡ old.ended.items ++ option_to_list (current_or_next old.sending (next_sending p t packet old.node old.tuning.now))
  on_air_is = ap on_air is_started

  pub after_start : (o : Option ℕ) → o ≡ begins_on old.tuning.now old.sending → AreMarks (set sts i new) (raised o) × AreAlike t (set sts i new) (raised o)
  after_start (Some rank) is =
      let can = can_start old.tuning.now old.sending rank is in
      let u = can.0 in
      let x : Sending = record { rank = rank; node = old.node; start = t; end = t + airtime p (length packet); packet = packet } in
      let silent : on_air old ≡ old.ended.items = ap (λ (o : Option Sending). old.ended.items ++ option_to_list o) can.2 ∙ append-nil old.ended.items in
      let sends : on_air new ≡ old.ended.items ++ x ∷ [] =
      on_air_is ∙ ap (λ (o : Option Tuned). old.ended.items ++ option_to_list (current_or_next old.sending (next_sending p t packet old.node o))) can.1
      ∙ ap (λ (o : Option Sending). old.ended.items ++ option_to_list (current_or_next o (next_sending p t packet old.node (Some u)))) can.2
      ∙ ap (λ (n : ℕ). let z : Sending = record {
        rank = n;
        node = old.node;
        start = t;
        end = t + airtime p (length packet);
        packet = packet;
      } in old.ended.items ++ z ∷ []) can.3 in
      let marked : IsMark (on_air new) (next_mark rank t end origin (get_or mks i no_mark)) =
      subst (λ (n : ℕ). IsMark (on_air new) (next_mark rank t n origin (get_or mks i no_mark))) (sym end_is)
      (subst (λ (l : List Sending). IsMark l (next_mark rank t (t + airtime p (length packet)) origin (get_or mks i no_mark))) (sym sends)
      (mark_pushed now old.ended.items x origin (get_or mks i no_mark) aged (omega (arith, later))
      (subst (λ (l : List Sending). IsMark l (get_or mks i no_mark)) silent (was_marked no_mark)))) in (
        marks_changed sts mks i new (next_mark rank t end origin (get_or mks i no_mark)) are marked,
        alike_started now t end sts mks i old new x origin below at node silent sends refl refl aged later are.one_each from alike,
      )
  after_start None is =
      let same : on_air new ≡ on_air old = on_air_is ∙ ap (λ (o : Option Sending). old.ended.items ++ option_to_list o)
      (can't_start old.tuning.now old.sending p t packet old.node is) in (
        marks_stay sts mks i new are (λ e. subst (λ (l : List Sending). IsMark l (get_or mks i e)) (sym same) (was_marked e)),
        alike_kept now t sts mks i old new below at node (λ y newest. subst (λ (l : List Sending). IsNewest l y) same newest)
            (λ y newest. subst (λ (l : List Sending). IsNewest l y) (sym same) newest) later alike,
      )

-- who sends that packet past t
pub sender_joins : (sts : List Station) (mks : List Mark) (i t : ℕ) (packet : List ℕ) (st : Station) (mk : Mark) → StandAtPlace sts mks i st mk
    → sends_packet t packet st.sending ≡ true → Joins sts mks t packet mk.origin
sender_joins sts mks i t packet st mk stands so = by_sending st.sending refl so
  where
    by_sending : (o : Option Sending) → st.sending ≡ o → sends_packet t packet o ≡ true → Joins sts mks t packet mk.origin
    by_sending None none is = absurd (false≢true is)
    by_sending (Some w) some is =
        let both = and_parts (nat_lt t w.end) (bytes_eq w.packet packet) is in
        record {
          place = i;
          station = st;
          mark = mk;
          stands = stands;
          newest = w;
          is = subst (λ (o : Option Sending). IsNewest (st.ended.items ++ option_to_list o) w) (sym some) (pushed_is_newest st.ended.items w);
          runs = ltb-true t w.end both.0;
          same = (bytes_eq-Decides w.packet packet).0 both.1;
          origin = refl;
        }
