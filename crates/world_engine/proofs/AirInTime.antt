-- What is in the log of a run at first, and when time passes and nothing happens.
use Rattle.std.proofs.Common.{length, ◌≡◌, ℕ, suc, ◌<◌, ◌≤◌, ◌↔◌, inl, inr, List, [], Some, None, Option, option_map, refl, sym, ◌∙◌, ap, subst, arith}
use Rattle.std.proofs.Common.{Contains, IfSome}
use Rattle.std.proofs.lemmas.Bool.{cases_lt}
use Rattle.std.proofs.lemmas.Option.{same_Some}
use Rattle.radio_model.specs.declared.sending.Sending.{Sending}
use Rattle.radio_model.specs.declared.station.Station.{Station}
use Rattle.radio_model.specs.declared.tuning.Tuned.{Tuned}
use Rattle.radio_model.specs.OnAir.{Hearing}
use Rattle.radio_model.specs.Hearing.{Scene, IsTuned, HearsInScene}
use Rattle.radio_model.specs.Holding.{Agree, as_it_stands, nothing_yet}
use Rattle.radio_model.specs.Stations.{MediumState, IsTime, station_of}
use Rattle.lwb_base.proofs.Elements.{not_in_none}
use Rattle.radio_model.proofs.Agreement.{agree_earlier}
use Rattle.radio_model.proofs.NothingBefore.{by_waiting}
use Rattle.radio_model.proofs.OneCall.{found_member}
use Rattle.radio_model.proofs.Scenes.{Lit, Lasts, lit_or_lasts, lasts_stands}
use Rattle.radio_model.proofs.Settled.{settled}
use Rattle.radio_model.proofs.Tunings.{Goes}
use Rattle.radio_model.proofs.TunedStations.{since_by}
use Rattle.scenario_text.specs.ScenarioParts.{ScenarioParts}
use Rattle.bus_rules.specs.declared.delivery.Delivery.{Delivery}
use Rattle.event_calendar.specs.Orders.{Due}
use Rattle.bus_rules.specs.Cores.{Setup}
use Rattle.air_log.specs.declared.entry.Entry.{Entry}
use Rattle.air_log.specs.Entries.{sendings_of, hearings_of}
use Rattle.air_log.specs.Devices.{Device, Listening}
use Rattle.world_engine.specs.Fields.{FieldState, IsField, FieldShows}
use Rattle.world_engine.specs.Following.{rank_of_tuned}
use Rattle.air_log.specs.Tunings.{channel_of}
use Rattle.world_engine.proofs.ShownPlaces.{station_channel}
use Rattle.world_engine.specs.FieldSteps.{IsFirstField}
use Rattle.world_engine.specs.Running.{Runs, HoldsScene, HasHearings, IsOnAir}
use Rattle.air_log.specs.TunedTimes.{WasTuned, listened}
use Rattle.air_log.proofs.TunedBefore.{HasTunedBy}
use Rattle.world_engine.proofs.ShownTunings.{AreTuned, alike, alike_back, tuned_alike, shown_within}
use Rattle.world_engine.proofs.ScenesGoOn.{found_in}

-- at first
module _ (s : ScenarioParts) (w : FieldState) (due : List Due) (is : IsFirstField s w) where
  no_entry : {X : Type 0} (f : List Entry → List X) → f [] ≡ [] → (x : X) → Contains (f w.air) x → ⊥
  no_entry {X} f none x there = not_in_none x (subst (λ (l : List X). Contains l x) (ap f is.air ∙ none) there)

  first_scene : HoldsScene s 0 w due (nothing_yet s.profile s.trace)
  first_scene = record {
    held = is.held s.trace;
    lines = refl;
    numbers = ap (λ (m : MediumState). m.numbers) is.medium;
    time = record {
      later = omega (arith, ap (λ (m : MediumState). m.now) is.medium);
      small = omega arith;
      running = λ st x there sends. omega arith;
    };
    sendings = λ x. (λ there. absurd (not_in_none x there), λ there. absurd (no_entry sendings_of refl x there));
    begun = λ x there. absurd (no_entry sendings_of refl x there);
    tuned = λ q p d shows r k early. absurd (omega (arith, early));
    known = λ e there. absurd (no_entry (λ l. l) refl e there);
    deliverers = λ d there. absurd (not_in_none d (subst (λ (l : List Delivery). Contains l d) is.deliveries there));
  }

  no_hearings : hearings_of w.air ≡ []
  no_hearings = ap hearings_of is.air

  pub first_on_air : IsOnAir s 0 0 w due
  first_on_air = record {
    scene = nothing_yet s.profile s.trace;
    holds = first_scene;
    has = record {
      heard = λ v x. (λ there. absurd (no_entry hearings_of refl _ there), λ all. absurd (no_entry sendings_of refl x all.0));
      ended = λ x there over. absurd (no_entry sendings_of refl x there);
      once = λ i j d less below. absurd (omega (arith, below, ap (λ (l : List Hearing). length l) no_hearings));
      in_turn = λ i j d less below. absurd (omega (arith, below, ap (λ (l : List Hearing). length l) no_hearings));
      next = λ g y there runs. absurd (no_entry hearings_of refl g there);
    };
  }

-- a tuning that lasts
goes_on : (tuned : Option Tuned) (l : Option Listening) (r k : ℕ) → option_map rank_of_tuned tuned ≡ option_map channel_of l
    → IfSome tuned (λ o. o.since ≤ k) → listened r k l → Goes tuned r k
goes_on None None r k same since on = on
goes_on None (Some l) r k same since on = cc
goes_on (Some o) None r k same since on = absurd on
goes_on (Some o) (Some l) r k same since on = (same_Some o.rank l.rank same ∙ on.0, since)

listens_on : (tuned : Option Tuned) (l : Option Listening) (r k : ℕ) → option_map rank_of_tuned tuned ≡ option_map channel_of l → IfSome l (λ l. l.since ≤ k)
    → Goes tuned r k → listened r k l
listens_on None l r k same since on = absurd on
listens_on (Some o) None r k same since on = cc
listens_on (Some o) (Some l) r k same since on = (sym (same_Some o.rank l.rank same) ∙ on.0, since)

began_by : (t k : ℕ) (l : Option Listening) → t ≤ k → IfSome l (λ l. l.since ≤ t) → IfSome l (λ l. l.since ≤ k)
began_by t k None order is = tt
began_by t k (Some l) order is = omega (arith, is)

-- the same transmissions that are over are received
pub heard_alike : (s : ScenarioParts) (t : ℕ) (w : FieldState) (due : List Due) (a b c : Scene) → HoldsScene s t w due a → Agree t b c
    → (v : ℕ) (x : Sending) → Contains (sendings_of w.air) x → x.end ≤ t → HearsInScene b v x ↔ HearsInScene c v x
heard_alike s t w due a b c h agree v x there over = settled b c v x (h.begun x there).0 (agree_earlier x.end t b c over agree)

module _ (s : ScenarioParts) (t u : ℕ) (w : FieldState) (due : List Due) (a : Scene) (h : HoldsScene s t w due a) (later : t ≤ u)
    (time : IsTime w.medium u) (field : IsField w) (all : AreTuned t w due) where
  waits : Agree t (as_it_stands w.medium t a) (as_it_stands w.medium u a)
  waits = by_waiting w.medium t u a later

  -- at a place whose device is shown now, at a tick from now on
  module _ (q : Setup) (p : ℕ) (d : Device) (shows : FieldShows q t w due p d) (by : HasTunedBy t d) (r k : ℕ) (from : t ≤ k) (until : k < u) where
    station : Station
    station = shows.station

    there : station_of w.medium q.id ≡ Some station
    unfolding station
    there = ap (λ (x : Setup). station_of w.medium x.id) (sym shows.shows.setup) ∙ shows.known.there

    found : Contains w.medium.stations station × (station.node ≡ q.id)
    found = found_in q.id w.medium.stations station there

    same : option_map rank_of_tuned station.tuning.now ≡ option_map channel_of d.listening
    unfolding station
    same = station_channel q t w due p d shows ∙ sym shows.shows.channel ∙ ap (λ (x : Device). option_map channel_of x.listening) shows.shows.is

    past : Lit a q.id r k → ⊥
    past lit = omega (arith, lit.until, h.held.past lit.tuning lit.there, h.time.later, from)

    on : IsTuned (as_it_stands w.medium u a) q.id r k → WasTuned d r k
    on is = elim (lit_or_lasts w.medium a u q.id r k is) [ inl lit ↦ absurd (past lit) | inr lasts ↦ inr (of_station lasts) ]
      where
        of_station : Lasts w.medium q.id r k → listened r k d.listening
        of_station lasts =
            let one : lasts.station ≡ station = same_Some lasts.station station
            (sym (found_member w.medium.stations lasts.station field.medium.nodes.ascending lasts.there) ∙ ap (station_of w.medium) lasts.node ∙ there) in
            listens_on station.tuning.now d.listening r k same (began_by t k d.listening from by.since)
            (subst (λ (st : Station). Goes st.tuning.now r k) one lasts.goes)

    back : WasTuned d r k → IsTuned (as_it_stands w.medium u a) q.id r k
    back is =
        elim is [
          | inl e ↦ absurd (omega (arith, e.2.until, (by.ended e.0 e.1).1, from))
          | inr goes ↦ lasts_stands w.medium a u q.id r k until (record {
            station = station;
            there = found.0;
            node = found.1;
            goes = goes_on station.tuning.now d.listening r k same
                (since_by w.medium.now k station.tuning.now station.tuning.last (let by_now = h.time.later in omega (arith, by_now, from))
                (h.held.orderly station found.0).tunings) goes;
          })
        ]

  place_later : (q : Setup) (p : ℕ) (d : Device) → FieldShows q t w due p d → HasTunedBy t d → (r k : ℕ) → k < u
      → IsTuned (as_it_stands w.medium u a) q.id r k ↔ WasTuned d r k
  place_later q p d shows by r k early =
      elim (cases_lt k t) [
        | inl before ↦
            let told = h.tuned q p d shows r k before in
            let same = waits.tuned q.id r k before in
            (λ is. told.0 (same.1 is), λ is. same.0 (told.1 is))
        | inr from ↦ (on q p d shows by r k from early, back q p d shows by r k from early)
      ]

  tuned_later : (q : Setup) (p : ℕ) (d : Device) → FieldShows q u w due p d → (r k : ℕ) → k < u → IsTuned (as_it_stands w.medium u a) q.id r k ↔ WasTuned d r k
  tuned_later q p d shows r k early =
      let m = all p (shown_within q u w due p d shows) in
      let like = alike m.setup q t u w due p m.device d m.shows shows in
      let other = alike_back m.setup q m.device d like in
      let told = place_later m.setup p m.device m.shows m.by r k early in (
        λ is. tuned_alike m.setup q m.device d like r k (told.0 (subst (λ (x : Setup). IsTuned (as_it_stands w.medium u a) x.id r k) other.setup is)),
        λ is. subst (λ (x : Setup). IsTuned (as_it_stands w.medium u a) x.id r k) like.setup (told.1 (tuned_alike q m.setup d m.device other r k is)),
      )

  pub scene_later : HoldsScene s u w due a
  scene_later = record {
    held = h.held;
    lines = h.lines;
    numbers = h.numbers;
    time = time;
    sendings = h.sendings;
    begun = λ x there. let b = h.begun x there in (b.0, omega (arith, b.1, later));
    tuned = tuned_later;
    known = h.known;
    deliverers = h.deliverers;
  }

  -- what was over stays over
  hearings_later : (over more : ℕ) → over ≤ suc t → over ≤ more → HasHearings over t w a → HasHearings more u w a
  hearings_later over more now grows has = record {
    heard = λ v x. (
      λ there. (let all = (has.heard v x).0 there in (all.0, all.1, all.2, (alike_by v x all.0 all.1).0 all.3)),
      λ all. (has.heard v x).1 (all.0, all.1, all.2, (alike_by v x all.0 all.1).1 all.3),
    );
    ended = λ x there stopped. let before = has.ended x there stopped in omega (arith, before, grows);
    once = has.once;
    in_turn = has.in_turn;
    next = has.next;
  }
    where
      alike_by : (v : ℕ) (x : Sending) → Contains (sendings_of w.air) x → (Runs w.medium x → ⊥) → HearsInScene (as_it_stands w.medium t a) v x
          ↔ HearsInScene (as_it_stands w.medium u a) v x
      alike_by v x there stopped = let before = has.ended x there stopped in heard_alike s t w due a _ _ h waits v x there (omega (arith, before, now))

pub time_passes : (s : ScenarioParts) (over more t u : ℕ) (w : FieldState) (due : List Due) → t ≤ u → over ≤ suc t → over ≤ more → IsTime w.medium u
    → IsField w → AreTuned t w due
    → IsOnAir s over t w due → IsOnAir s more u w due
time_passes s over more t u w due later now grows time field all is = record {
  scene = is.scene;
  holds = scene_later s t u w due is.scene is.holds later time field all;
  has = hearings_later s t u w due is.scene is.holds later time field all over more now grows is.has;
}

-- a moment or more of one tick
pub more_is_over : (s : ScenarioParts) (over more t : ℕ) (w : FieldState) (due : List Due) → over ≤ more → IsOnAir s over t w due → IsOnAir s more t w due
more_is_over s over more t w due grows is = record {
  scene = is.scene;
  holds = is.holds;
  has = record {
    heard = is.has.heard;
    ended = λ x there stopped. let before = is.has.ended x there stopped in omega (arith, before, grows);
    once = is.has.once;
    in_turn = is.has.in_turn;
    next = is.has.next;
  };
}
