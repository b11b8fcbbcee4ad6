-- Whose transmissions can matter, through the changes of a medium.
use Rattle.std.proofs.Common.{◌≡◌, ◌≢◌, ℕ, ◌+◌, ◌<◌, ◌≤◌, inl, inr, List, length, set, get_or, Bool, true, false, not, ◌==◌, ◌&&◌, nat_lt, if◌then◌else◌}
use Rattle.std.proofs.Common.{min, Option, Some, None, is_some, refl, sym, ◌∙◌, ap, subst, arith}
use Rattle.std.proofs.lemmas.Bool.{cases_lt, cases_eq, lt-ltb, le-ltb, cond-true, cond-false, and_parts, false≢true}
use Rattle.std.proofs.lemmas.Bool.Decides.{nat_tests}
use Rattle.std.proofs.lemmas.List.{length-map, length-set, get_or-set_same, get_or-set_other}
use Rattle.std.proofs.lemmas.List.Elements.{Contains-append_right, All-contains}
use Rattle.std.proofs.lemmas.Nat.Bits.{bit_at-zero, bit_at-lt}
use Rattle.std.proofs.Math.Nat.{le-max_left, le-max_right}
use Rattle.std.specs.Int.{bit_at}
use Rattle.lwb_base.specs.Profile.{Numbers, airtime}
use Rattle.radio_model.specs.Stations.{on_air, begins_on, id_of_station, station_after_start, current_or_next, next_sending}
use Rattle.radio_model.specs.Stations.{stations_from}
use Rattle.radio_model.specs.Marks.{AreMarks, no_mark, next_mark, next_marks}
use Rattle.radio_model.specs.Recent.{AreRecent, IsOneOf, IsRecentAfter, no_recent, is_of, is_joined}
use Rattle.radio_model.specs.declared.mark.Mark.{Mark}
use Rattle.radio_model.specs.declared.mark.Origin.{Origin}
use Rattle.radio_model.specs.declared.tuning.Tuned.{Tuned}
use Rattle.radio_model.specs.declared.recent.Recent.{Recent}
use Rattle.radio_model.specs.declared.sending.Sending.{Sending}
use Rattle.radio_model.specs.declared.station.Station.{Station}
use Rattle.radio_model.proofs.Alike.{origin_from}
use Rattle.lwb_base.proofs.Elements.{of_option}
use Rattle.radio_model.proofs.BegunOrigins.{can_start, can't_start}
use Rattle.radio_model.proofs.Places.{nodes_from}

no_origin : (o : Origin) → (let none : Option Origin = None in none ≡ Some o) → ⊥
no_origin o is = cc

unset : (n : ℕ) → n < 2 → not (n == 1) ≡ true → n ≡ 0
unset n small is = grind (arith, nat_tests)

-- a station changed, and began nothing
pub recent_stay : (now t : ℕ) (sts : List Station) (mks : List Mark) (r : Recent) (i : ℕ) (old new : Station) → i < length sts → old ≡ get_or sts i old
    → ((x : Sending) → new.sending ≡ Some x → old.sending ≡ Some x) → now ≤ t → AreRecent now sts mks r → AreRecent t (set sts i new) mks r
recent_stay now t sts mks r i old new below at back later are = record {
  by_now = omega (arith, are.by_now);
  newest_by_now = omega (arith, are.newest_by_now);
  running = λ k d x inside runs. elim (cases_eq k i) [
    | inl here ↦
        let new_is : get_or (set sts i new) k d ≡ new = ap (λ (n : ℕ). get_or (set sts i new) n d) here ∙ get_or-set_same sts i new d below in
        are.running i old x below (ap (λ (s : Station). s.sending) (sym at) ∙ back x (sym (ap (λ (s : Station). s.sending) new_is) ∙ runs))
    | inr other ↦ are.running k d x (omega (arith, inside, length-set sts i new)) (sym (ap (λ (s : Station). s.sending)
        (get_or-set_other sts i k new d other)) ∙ runs)
  ];
  others = λ k e inside. are.others k e (omega (arith, inside, length-set sts i new));
  within = λ k one. omega (arith, are.within k one, length-set sts i new);
  latest = λ k e inside. are.latest k e (omega (arith, inside, length-set sts i new));
  starts_by = are.starts_by;
  ends_from = are.ends_from;
  close = are.close;
}

some_origin : (a b : Origin) → (let o : Option Origin = Some a in o ≡ Some b) → a ≡ b
some_origin a b is = cc

of_it : (q : Option Origin) (a o : Origin) → is_of q a ≡ true → q ≡ Some o → a ≡ o
of_it None a o is said = absurd (false≢true is)
of_it (Some one) a o is said = sym (origin_from one a is) ∙ some_origin one o said

-- where one more has the origin of all others, its place is a new one
joined : (r : Recent) (i : ℕ) (a o : Origin) → (let none : Option Origin = None in (if is_joined r i a then r.origin else none) ≡ Some o)
    → (bit_at r.places i ≡ 0) × (r.origin ≡ Some o) × (a ≡ o)
joined r i a o said = by (is_joined r i a) refl said
  where
    by : (b : Bool) → b ≡ is_joined r i a → (let none : Option Origin = None in (if b then r.origin else none) ≡ Some o)
        → (bit_at r.places i ≡ 0) × (r.origin ≡ Some o) × (a ≡ o)
    by false is said = absurd (no_origin o said)
    by true is said =
        let both = and_parts (not (bit_at r.places i == 1)) (is_of r.origin a) (sym is) in (
          unset (bit_at r.places i) (bit_at-lt r.places i) both.0,
          said,
          of_it r.origin a o both.1 said,
        )

-- another transmission begins
module _ (now t : ℕ) (sts : List Station) (mks : List Mark) (r s : Recent) (i : ℕ) (new : Station) (x : Sending) (mk : Mark) (below : i < length sts)
    (one_each : length mks ≡ length sts) (sends : new.sending ≡ Some x) (starts : x.start ≡ t) (begun : mk.start ≡ t)
    (prior : mk.before ≡ (get_or mks i no_mark).end)
    (marks : AreMarks sts mks) (still : (k : ℕ) (d : Station) (y : Sending) → k < length sts → (get_or sts k d).sending ≡ Some y
    → t ≤ y.end) (later : now ≤ t) (is : IsRecentAfter i t mk.end mk.origin r s) (are : AreRecent now sts mks r) where
  mark_at : (k : ℕ) (e : Mark) → k ≢ i → get_or (set mks i mk) k e ≡ get_or mks k e
  mark_at k e other = get_or-set_other mks i k mk e other

  -- nothing that runs was over before
  runs_on : (k : ℕ) (d : Station) (y : Sending) → k < length sts → (get_or sts k d).sending ≡ Some y → t ≤ r.latest
  runs_on k d y inside runs =
      let st = get_or sts k d in
      let there = Contains-append_right st.ended.items _ y (of_option st.sending y runs) in
      let over = All-contains (λ (z : Sending). z.end ≤ (get_or mks k no_mark).end) (on_air st) y (marks.each k d no_mark inside).over there in
      omega (arith, over, are.latest k no_mark inside, still k d y inside runs)

  begins : (since : ℕ) → since ≤ t → ((k : ℕ) (d : Station) (y : Sending) → k < length sts → k ≢ i → (get_or sts k d).sending ≡ Some y → since ≤ y.start)
      → (k : ℕ) (d : Station) (y : Sending) → k < length (set sts i new)
      → (get_or (set sts i new) k d).sending ≡ Some y → since ≤ y.start
  begins since by_t old k d y inside runs = elim (cases_eq k i) [
    | inl here ↦
        let new_is : get_or (set sts i new) k d ≡ new = ap (λ (n : ℕ). get_or (set sts i new) n d) here ∙ get_or-set_same sts i new d below in
        let same : x ≡ y = some_same x y (sym sends ∙ sym (ap (λ (z : Station). z.sending) new_is) ∙ runs) in
        omega (arith, by_t, starts, ap (λ (z : Sending). z.start) same)
    | inr other ↦ old k d y (omega (arith, inside, length-set sts i new)) other (sym (ap (λ (z : Station). z.sending)
        (get_or-set_other sts i k new d other)) ∙ runs)
  ]
    where
      some_same : (v w : Sending) → (let q : Option Sending = Some v in q ≡ Some w) → v ≡ w
      some_same v w is = cc

  over_by : (since : ℕ) → ((k : ℕ) (e : Mark) → k < length sts → k ≢ i → bit_at s.places k ≡ 0 → (get_or mks k e).end ≤ since) → (k : ℕ) (e : Mark)
      → k < length (set sts i new) → bit_at s.places k ≡ 0
      → (get_or (set mks i mk) k e).end ≤ since
  over_by since old k e inside none = elim (cases_eq k i) [
    | inl here ↦ absurd (omega (arith, none, is.set, ap (bit_at s.places) here))
    | inr other ↦ subst (λ (m : Mark). m.end ≤ since) (sym (mark_at k e other)) (old k e (omega (arith, inside, length-set sts i new)) other none)
  ]

  inside_all : ((k : ℕ) → k ≢ i → bit_at s.places k ≡ 1 → k < length sts) → (k : ℕ) → bit_at s.places k ≡ 1 → k < length (set sts i new)
  inside_all old k one = elim (cases_eq k i) [
    | inl here ↦ omega (arith, here, below, length-set sts i new)
    | inr other ↦ omega (arith, old k other one, length-set sts i new)
  ]

  latest_all : (k : ℕ) (e : Mark) → k < length (set sts i new) → (get_or (set mks i mk) k e).end ≤ s.latest
  latest_all k e inside = elim (cases_eq k i) [
    | inl here ↦
        let new_is : get_or (set mks i mk) k e ≡ mk = ap (λ (n : ℕ). get_or (set mks i mk) n e) here
        ∙ get_or-set_same mks i mk e (omega (arith, below, one_each)) in
        omega (arith, ap (λ (m : Mark). m.end) new_is, is.latest, le-max_right r.latest mk.end)
    | inr other ↦
        let old = are.latest k e (omega (arith, inside, length-set sts i new)) in
        omega (arith, ap (λ (m : Mark). m.end) (mark_at k e other), old, is.latest, le-max_left r.latest mk.end)
  ]

  new_mark : (k : ℕ) (e : Mark) → k ≡ i → mk ≡ get_or (set mks i mk) k e
  new_mark k e here = sym (ap (λ (n : ℕ). get_or (set mks i mk) n e) here ∙ get_or-set_same mks i mk e (omega (arith, below, one_each)))

  -- the first since all was over, and one more of those that were close
  first_of_it : s.since ≡ t → mk.before ≤ t → (o : Origin) → mk.origin ≡ o → IsOneOf o s.since s.newest mk
  first_of_it at over o same =
      record {
        origin_is = same;
        before = omega (arith, at, over);
        from = omega (arith, at, begun);
        until = omega (arith, begun, is.newest);
      }

  one_more_of_it : s.since ≡ r.since → mk.before ≤ r.since → (o : Origin) → mk.origin ≡ o → IsOneOf o s.since s.newest mk
  one_more_of_it at over o same =
      record {
        origin_is = same;
        before = omega (arith, at, over);
        from = omega (arith, at, begun, are.by_now);
        until = omega (arith, begun, is.newest);
      }

  still_of_it : s.since ≡ r.since → (o : Origin) (m : Mark) → IsOneOf o r.since r.newest m → IsOneOf o s.since s.newest m
  still_of_it at o m one =
      record {
        origin_is = one.origin_is;
        before = omega (arith, at, one.before);
        from = omega (arith, at, one.from);
        until = omega (arith, one.until, is.newest, are.newest_by_now);
      }

  pub recent_begun : AreRecent t (set sts i new) (set mks i mk) s
  recent_begun = elim (cases_lt r.latest t) [
    | inl over ↦
        let begun_now : s.since ≡ t = is.since ∙ cond-true (nat_lt r.latest t) t r.since (lt-ltb r.latest t over) in
        let alone : (k : ℕ) → k ≢ i → bit_at s.places k ≡ 0 = λ k other.
        is.others k other ∙ ap (λ (n : ℕ). bit_at n k) (cond-true (nat_lt r.latest t) 0 r.places (lt-ltb r.latest t over)) ∙ bit_at-zero k in
        record {
          by_now = omega (arith, begun_now);
          newest_by_now = omega (arith, is.newest);
          running = begins s.since (omega (arith, begun_now)) (λ k d y inside other runs. absurd (omega (arith, over, runs_on k d y inside runs)));
          others = over_by s.since (λ k e inside other none. omega (arith, over, begun_now, are.latest k e inside));
          within = inside_all (λ k other one. absurd (omega (arith, one, alone k other)));
          latest = latest_all;
          starts_by = λ k e one. elim (cases_eq k i) [
            | inl here ↦ omega (arith, ap (λ (m : Mark). m.start) (new_mark k e here), begun, is.newest)
            | inr other ↦ absurd (omega (arith, one, alone k other))
          ];
          ends_from = λ k e one. elim (cases_eq k i) [
            | inl here ↦ omega (
              arith,
              ap (λ (m : Mark). m.end) (new_mark k e here),
              is.soonest,
              cond-true (nat_lt r.latest t) mk.end (min r.soonest mk.end) (lt-ltb r.latest t over),
            )
            | inr other ↦ absurd (omega (arith, one, alone k other))
          ];
          close = λ o said k e one. elim (cases_eq k i) [
            | inl here ↦
                subst (IsOneOf o s.since s.newest) (new_mark k e here)
                (first_of_it begun_now (omega (arith, prior, over, are.latest i no_mark below)) o (some_origin mk.origin o
                (sym (cond-true (nat_lt r.latest t) (Some mk.origin) _ (lt-ltb r.latest t over)) ∙ sym is.origin ∙ said)))
            | inr other ↦ absurd (omega (arith, one, alone k other))
          ];
        }
    | inr not ↦
        let same_since : s.since ≡ r.since = is.since ∙ cond-false (nat_lt r.latest t) t r.since (le-ltb r.latest t not) in
        let same_soonest : s.soonest ≡ min r.soonest mk.end =
        is.soonest ∙ cond-false (nat_lt r.latest t) mk.end (min r.soonest mk.end) (le-ltb r.latest t not) in
        let kept : (k : ℕ) → k ≢ i → bit_at s.places k ≡ bit_at r.places k = λ k other.
        is.others k other ∙ ap (λ (n : ℕ). bit_at n k) (cond-false (nat_lt r.latest t) 0 r.places (le-ltb r.latest t not)) in
        record {
          by_now = omega (arith, are.by_now, same_since);
          newest_by_now = omega (arith, is.newest);
          running = begins s.since (omega (arith, are.by_now, same_since)) (λ k d y inside other runs.
              omega (arith, same_since, are.running k d y inside runs));
          others = over_by s.since (λ k e inside other none. omega (arith, same_since, are.others k e inside (sym (kept k other) ∙ none)));
          within = inside_all (λ k other one. are.within k (sym (kept k other) ∙ one));
          latest = latest_all;
          starts_by = λ k e one. elim (cases_eq k i) [
            | inl here ↦ omega (arith, ap (λ (m : Mark). m.start) (new_mark k e here), begun, is.newest)
            | inr other ↦ omega (
              arith,
              ap (λ (m : Mark). m.start) (mark_at k e other),
              are.starts_by k e (sym (kept k other) ∙ one),
              is.newest,
              are.newest_by_now,
              later,
            )
          ];
          ends_from = λ k e one. elim (cases_eq k i) [
            | inl here ↦ omega (arith, ap (λ (m : Mark). m.end) (new_mark k e here), same_soonest)
            | inr other ↦ omega (arith, ap (λ (m : Mark). m.end) (mark_at k e other), are.ends_from k e (sym (kept k other) ∙ one), same_soonest)
          ];
          close = λ o said k e one.
              let join = joined r i mk.origin o (sym (cond-false (nat_lt r.latest t) (Some mk.origin) _ (le-ltb r.latest t not)) ∙ sym is.origin ∙ said) in
              elim (cases_eq k i) [
                | inl here ↦
                    subst (IsOneOf o s.since s.newest) (new_mark k e here)
                    (one_more_of_it same_since (omega (arith, prior, are.others i no_mark below join.0)) o join.2)
                | inr other ↦
                    subst (IsOneOf o s.since s.newest) (sym (mark_at k e other))
                    (still_of_it same_since o (get_or mks k e) (are.close o join.1 k e (sym (kept k other) ∙ one)))
              ];
        }
  ]

-- a station starts to send, or can't
pub recent_after_start : (p : Numbers) (now t end : ℕ) (packet : List ℕ) (sts : List Station) (mks : List Mark) (i : ℕ) (old new : Station)
    (origin : Origin) (r s : Recent) → i < length sts → old ≡ get_or sts i old
    → new ≡ station_after_start p t packet old → now ≤ t → AreMarks sts mks
    → ((k : ℕ) (d : Station) (y : Sending) → k < length sts → (get_or sts k d).sending ≡ Some y
    → t ≤ y.end) → AreRecent now sts mks r
    → (o : Option ℕ) → o ≡ begins_on old.tuning.now old.sending → (is_some o ≡ true → IsRecentAfter i t end origin r s) → (is_some o ≡ false → s ≡ r)
    → AreRecent t (set sts i new) (next_marks o t end origin i mks no_mark) s
recent_after_start p now t end packet sts mks i old new origin r s below at is_started later marks still are (Some rank) is next stays =
    let can = can_start old.tuning.now old.sending rank is in
    let u = can.0 in
    let x : Sending = record { rank = u.rank; node = old.node; start = t; end = t + airtime p (length packet); packet = packet } in
    let sends : new.sending ≡ Some x =
    ap (λ (st : Station). st.sending) is_started ∙ ap (λ (o : Option Tuned). current_or_next old.sending (next_sending p t packet old.node o)) can.1
    ∙ ap (λ (o : Option Sending). current_or_next o (Some x)) can.2 in
    recent_begun now t sts mks r s i new x (next_mark rank t end origin (get_or mks i no_mark)) below marks.one_each sends refl refl refl marks still later
    (next refl) are
recent_after_start p now t end packet sts mks i old new origin r s below at is_started later marks still are None is next stays =
    subst (AreRecent t (set sts i new) mks) (sym (stays refl))
    (recent_stay now t sts mks r i old new below at
    (λ x runs. sym (can't_start old.tuning.now old.sending p t packet old.node is) ∙ sym (ap (λ (st : Station). st.sending) is_started) ∙ runs) later are)

-- at first nothing was sent
pub recent_first : (vs : List ℕ) (mks : List Mark) → ((k : ℕ) (e : Mark) → k < length vs → (get_or mks k e).end ≤ 0)
    → AreRecent 0 (stations_from 0 vs) mks no_recent
recent_first vs mks none = record {
  by_now = omega arith;
  newest_by_now = omega arith;
  running = λ k d x inside runs. omega arith;
  others = λ k e inside bit. none k e (omega (arith, inside, long));
  within = λ k one. absurd (omega (arith, one, bit_at-zero k));
  latest = λ k e inside. none k e (omega (arith, inside, long));
  starts_by = λ k e one. absurd (omega (arith, one, bit_at-zero k));
  ends_from = λ k e one. absurd (omega (arith, one, bit_at-zero k));
  close = λ o said k e one. absurd (omega (arith, one, bit_at-zero k));
}
  where
    long : length (stations_from 0 vs) ≡ length vs
    long = sym (length-map (stations_from 0 vs) id_of_station) ∙ ap length (nodes_from 0 vs)
