-- What the medium holds after a transmission begins.
use Rattle.std.proofs.Common.{◌≡◌, ℕ, ◌+◌, ◌≤◌, inl, inr, List, [], ◌∷◌, ◌++◌, length, if◌then◌else◌, ◌==◌, Option, Some, None}
use Rattle.std.proofs.Common.{is_none, option_to_list, refl, sym, ◌∙◌, ap, subst, arith, Contains, append-nil}
use Rattle.std.proofs.lemmas.List.Elements.{Contains-append_cases, Contains-append_left, Contains-append_right}
use Rattle.std.proofs.lemmas.Bool.{cond_both}
use Rattle.lwb_base.specs.Profile.{Numbers, airtime}
use Rattle.radio_model.specs.OnAir.{Sending}
use Rattle.radio_model.specs.Hearing.{Scene}
use Rattle.radio_model.specs.Stations.{MediumState, IsMedium, nodes_of, id_of_station, station_of, on_air, station_after_start, current_or_next, next_sending}
use Rattle.radio_model.specs.Stations.{medium_after_change, station_changed_at}
use Rattle.radio_model.specs.Holding.{Holds, IsKept, IsOrderly, IsOwn, InTurn, sending_at_start, after_starting}
use Rattle.radio_model.specs.declared.tuning.Tuned.{Tuned}
use Rattle.radio_model.specs.declared.station.Station.{Station}
use Rattle.lwb_base.proofs.Elements.{in_option, of_option, map_from, contains_head, contains_tail}
use Rattle.radio_model.proofs.Changes.{started_keeps}
use Rattle.radio_model.proofs.Tunings.{Tells, tells_later}
use Rattle.radio_model.proofs.Scenes.{Lit}
use Rattle.radio_model.proofs.Retuned.{order_later, tells_same}
use Rattle.radio_model.proofs.OneCall.{found_member, lit_moves, tells_by, right_by, each_after, ascend_after, is_there, at_v}
use Rattle.radio_model.proofs.AfterTuning.{orderly_later}

with_next : (ys : List Sending) (s n : Option Sending)
    → ys ++ option_to_list (current_or_next s n) ≡ (ys ++ option_to_list s) ++ option_to_list (if is_none s then n else None)
with_next ys None n = sym (ap (λ (l : List Sending). l ++ option_to_list n) (append-nil ys))
with_next ys (Some x) n = sym (append-nil (ys ++ x ∷ []))

pub in_turn_push : (from : ℕ) (ys : List Sending) (x : Sending) → InTurn from ys → from ≤ x.start → ((y : Sending) → Contains ys y → y.end ≤ x.start)
    → InTurn from (ys ++ x ∷ [])
in_turn_push from [] x turn first over = (first, tt)
in_turn_push from (y ∷ ys) x turn first over =
    (turn.0, in_turn_push y.end ys x turn.1 (over y (contains_head y ys)) (λ z there. over z (contains_tail y ys z there)))

module _ (p : Numbers) (t : ℕ) (packet : List ℕ) (short : 3 ≤ length packet) (long : length packet ≤ 125) where
  abbrev next : Station → Option Sending
  next st = sending_at_start p t packet (Some st)

  air_more : (st : Station) → on_air (station_after_start p t packet st) ≡ on_air st ++ option_to_list (next st)
  air_more st = with_next st.ended.items st.sending (next_sending p t packet st.node st.tuning.now)

  next_is : (v : ℕ) (s : Option Sending) (tuned : Option Tuned) (y : Sending) → (if is_none s then next_sending p t packet v tuned else None) ≡ Some y
      → (s ≡ None) × IsOwn p v y × (y.start ≡ t)
  next_is v None None y is = cc
  next_is v None (Some o) y is =
      let same : record { rank = o.rank; node = v; start = t; end = t + airtime p (length packet); packet = packet } ≡ y = some_same is in
      (refl, subst (IsOwn p v) same (record { node = refl; lasts = refl; short = short; long = long }), sym (ap (λ (z : Sending). z.start) same))
    where
      some_same : {w z : Sending} → (let x : Option Sending = Some w in x ≡ Some z) → w ≡ z
      some_same is = cc
  next_is v (Some x) tuned y is = cc

  -- the station with its new transmission
  orderly_started : (now : ℕ) (st : Station) → now ≤ t → IsOrderly p now st → IsOrderly p t (station_after_start p t packet st)
  orderly_started now st later is = record {
    own = λ y there. elim (Contains-append_cases (on_air st) (option_to_list (next st)) y (subst (λ (l : List Sending). Contains l y) (air_more st) there)) [
      | inl old ↦ is.own y old
      | inr new ↦ (next_is st.node st.sending st.tuning.now y (in_option (next st) y new)).1
    ];
    in_turn = subst (InTurn 0) (sym (air_more st)) (turn (next st) refl);
    over = λ y there. let by = is.over y there in omega arith;
    tunings = order_later now t st.tuning.now st.tuning.last later is.tunings;
  }
    where
      turn : (n : Option Sending) → next st ≡ n → InTurn 0 (on_air st ++ option_to_list n)
      turn None same = subst (InTurn 0) (sym (append-nil (on_air st))) is.in_turn
      turn (Some x) same =
          let w = next_is st.node st.sending st.tuning.now x same in
          let silent : on_air st ≡ st.ended.items = ap (λ (s : Option Sending). st.ended.items ++ option_to_list s) w.0 ∙ append-nil st.ended.items in
          let start = w.2 in
          in_turn_push 0 (on_air st) x is.in_turn (omega arith)
          (λ y there. let by = is.over y (subst (λ (l : List Sending). Contains l y) silent there) in omega arith)

module _ (m : MediumState) (is : IsMedium m) (a : Scene) (h : Holds m a) (v : ℕ) (member : Contains (nodes_of m) v) (t : ℕ) (later : m.now ≤ t)
    (packet : List ℕ) (short : 3 ≤ length packet) (long : length packet ≤ 125) where
  abbrev change : Station → Station
  change = station_after_start m.numbers t packet

  abbrev new : Option Sending
  new = sending_at_start m.numbers t packet (station_of m v)

  of_v : (st : Station) → Contains m.stations st → st.node ≡ v → station_of m v ≡ Some st
  of_v st there node = ap (station_of m) (sym node) ∙ found_member m.stations st is.nodes.ascending there

  new_of : (st : Station) → Contains m.stations st → st.node ≡ v → new ≡ next m.numbers t packet short long st
  new_of st there node = ap (sending_at_start m.numbers t packet) (of_v st there node)

  abbrev now_tells : Station → Type 0
  now_tells s = Tells (Lit (record a { sendings = a.sendings ++ option_to_list new }) s.node) s.tuning.now s.tuning.last t

  still : (st : Station) → Contains m.stations st → now_tells st
  still st there =
      tells_same (Lit a st.node) (Lit (record a { sendings = a.sendings ++ option_to_list new }) st.node) st.tuning.now st.tuning.last t
      (λ c k. (
        lit_moves a (record a { sendings = a.sendings ++ option_to_list new }) st.node c k refl,
        lit_moves (record a { sendings = a.sendings ++ option_to_list new }) a st.node c k refl,
      ))
      (tells_later (Lit a st.node) st.tuning.now st.tuning.last m.now t later (tells_by m a is.nodes.ascending st there m.now (h.tuned st there)))

  air_grows : (st : Station) (y : Sending) → Contains (on_air st) y → Contains (on_air (station_changed_at v change st)) y
  air_grows st y there =
      cond_both (st.node == v) (change st) st (λ (s : Station). Contains (on_air s) y)
      (λ _. subst (λ (l : List Sending). Contains l y) (sym (air_more m.numbers t packet short long st))
      (Contains-append_left (on_air st) (option_to_list (next m.numbers t packet short long st)) y there))
      (λ _. there)

  known_new : (y : Sending) → new ≡ Some y → IsKept (medium_after_change t v change m) y
  known_new y same =
      let w = map_from id_of_station m.stations v member in
      record {
        station = station_changed_at v change w.0;
        there = is_there m is change (started_keeps m.numbers t packet) v t w.0 w.1;
        kept = subst (λ (s : Station). Contains (on_air s) y) (sym (at_v m is change (started_keeps m.numbers t packet) v t w.0 w.2))
            (subst (λ (l : List Sending). Contains l y) (sym (air_more m.numbers t packet short long w.0))
            (Contains-append_right (on_air w.0) (option_to_list (next m.numbers t packet short long w.0)) y
            (of_option (next m.numbers t packet short long w.0) y (sym (new_of w.0 w.1 w.2) ∙ same))));
      }

  abbrev sends : Station → Type 0
  sends s = (y : Sending) → Contains (on_air s) y → Contains (a.sendings ++ option_to_list new) y

  sent_old : (st : Station) → Contains m.stations st → sends st
  sent_old st there y kept = Contains-append_left a.sendings (option_to_list new) y (h.sent y (record { station = st; there = there; kept = kept }))

  sent_new : (st : Station) → Contains m.stations st → st.node ≡ v → sends (change st)
  sent_new st there node y kept =
      elim (Contains-append_cases (on_air st) (option_to_list (next m.numbers t packet short long st)) y
      (subst (λ (l : List Sending). Contains l y) (air_more m.numbers t packet short long st) kept)) [
        | inl old ↦ sent_old st there y old
        | inr now ↦ Contains-append_right a.sendings (option_to_list new) y
            (subst (λ (o : Option Sending). Contains (option_to_list o) y) (sym (new_of st there node)) now)
      ]

  pub holds_after_starting : Holds (medium_after_change t v change m) (after_starting m v t packet a)
  holds_after_starting =
      let keeps = started_keeps m.numbers t packet in
      record {
        numbers = h.numbers;
        orderly = each_after m is change keeps v t (IsOrderly m.numbers t)
            (λ st there node. orderly_started m.numbers t packet short long m.now st later (h.orderly st there))
            (λ st there other. orderly_later m.numbers m.now t st st later (h.orderly st there) refl refl refl
            (order_later m.now t st.tuning.now st.tuning.last later (h.orderly st there).tunings));
        known = λ y there. elim (Contains-append_cases a.sendings (option_to_list new) y there) [
          | inl old ↦ elim (h.known y old) [
            | inl kept ↦ inl (record {
              station = station_changed_at v change kept.station;
              there = is_there m is change keeps v t kept.station kept.there;
              kept = air_grows kept.station y kept.kept;
            })
            | inr over ↦ inr (omega arith)
          ]
          | inr now ↦ inl (known_new y (in_option new y now))
        ];
        sent = λ y kept. each_after m is change keeps v t sends sent_new (λ st there other. sent_old st there) kept.station kept.there y kept.kept;
        past = λ k there. let by = h.past k there in omega arith;
        tuned =
            λ st there. right_by (medium_after_change t v change m) (record a { sendings = a.sendings ++ option_to_list new })
            (ascend_after m is change keeps v t) st there t
            (each_after m is change keeps v t now_tells (λ s old node. still s old) (λ s old other. still s old) st there);
      }
