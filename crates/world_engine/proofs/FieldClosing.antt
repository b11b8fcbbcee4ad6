-- A field whose tunings end one after another, place by place.
use Rattle.std.proofs.Common.{◌≡◌, ◌≢◌, ◌<◌, ◌≤◌, ◌+◌, ℕ, List, ◌++◌, map, get_or, length, reverse, Some, None, Option, refl, sym, ◌∙◌, ap, subst}
use Rattle.std.proofs.Common.{arith, inl, inr, ◌⊎◌, Contains, option_map}
use Rattle.std.specs.Prelude.{All, AllPairs, slice_get}
use Rattle.std.proofs.lemmas.Bool.{cases_order}
use Rattle.std.proofs.lemmas.List.Elements.{Contains-append_cases}
use Rattle.std.proofs.lemmas.Option.{slice_get-get_or, slice_get-map, slice_get_within, same_Some}
use Rattle.lwb_base.proofs.Elements.{map_contains, contains_at}
use Rattle.radio_model.specs.declared.station.Station.{Station}
use Rattle.radio_model.specs.declared.tuning.Past.{Past}
use Rattle.radio_model.specs.declared.tuning.RadioTuning.{RadioTuning}
use Rattle.radio_model.specs.Stations.{MediumState, station_of, tuning_at, tuning_after, over_after}
use Rattle.event_calendar.specs.Orders.{Due}
use Rattle.bus_rules.specs.Cores.{Setup}
use Rattle.air_log.specs.declared.entry.Entry.{Entry}
use Rattle.air_log.specs.Devices.{Device, Made, silenced}
use Rattle.air_log.specs.DeviceStates.{DeviceState, IsCoreAt}
use Rattle.air_log.specs.Entries.{sendings_of, hearings_of, node_of_entry}
use Rattle.air_log.specs.Tunings.{Tunings, one_more}
use Rattle.air_log.proofs.KeptTunings.{kept_off}
use Rattle.world_engine.specs.Fields.{FieldState, FieldShows, IsField, IsLogged, entries_of, setup_of_device, id_of, power_of, windows_of, ids_of}
use Rattle.world_engine.specs.FieldSteps.{GoesSilent, IsClosed}
use Rattle.world_engine.proofs.DevicePlaces.{apart_at}
use Rattle.world_engine.proofs.DeviceSteps.{hearings_tuned, sendings_tuned, sent_same, tuned_own, tuned_other, entries_own}

-- the log with a tuning of a node more, if there is one
abbrev pub with_entry : ℕ → Option Past → FieldState → FieldState
with_entry v o w = record w { air = w.air ++ entries_of v o }

abbrev with_past : ℕ → Option Past → Made → Made
with_past v o made = record made { tuned = one_more v o made.tuned }

-- the log with all tunings of a node, where its radio has come to this and goes off at t, and what the node has made by that
abbrev with_all : ℕ → ℕ → RadioTuning → FieldState → FieldState
with_all v t x w = with_entry v (tuning_after None t x).last (with_entry v (over_after None t x) w)

abbrev with_both : ℕ → ℕ → RadioTuning → Made → Made
with_both v t x made = with_past v (tuning_after None t x).last (with_past v (over_after None t x) made)

-- no node is at two places
ids_differ : (w : FieldState) → IsField w → (p q : ℕ) (d e : DeviceState) → q ≢ p → slice_get w.devices p ≡ Some d → slice_get w.devices q ≡ Some e
    → e.setup.id ≢ d.setup.id
ids_differ w is p q d e other at_p at_q =
    apart_at (ids_of w) (subst (λ (l : List ℕ). AllPairs (λ a b. a < b) l) (sym is.nodes) is.medium.nodes.ascending) q p e.setup.id d.setup.id other
    (slice_get-map id_of w.devices q ∙ ap (option_map id_of) at_q)
    (slice_get-map id_of w.devices p ∙ ap (option_map id_of) at_p)

logged_more : (w : FieldState) (v : ℕ) (made : Made) (o : Option Past) → IsLogged w v made → IsLogged (with_entry v o w) v (with_past v o made)
logged_more w v made o is = record {
  sent = is.sent ∙ sym (sent_same w.air v v o);
  tuned = ap (one_more v o) is.tuned ∙ sym (tuned_own w.air v o);
  deliveries = is.deliveries;
}

logged_still : (w : FieldState) (u v : ℕ) (made : Made) (o : Option Past) → v ≢ u → IsLogged w v made → IsLogged (with_entry u o w) v made
logged_still w u v made o other is = record {
  sent = is.sent ∙ sym (sent_same w.air v u o);
  tuned = is.tuned ∙ ap reverse (sym (tuned_other w.air v u o other));
  deliveries = is.deliveries;
}

-- the devices below place i have all their tunings in the log, the others have what they had
pub record IsClosedUpto (t i : ℕ) (old new : FieldState) : Type 0 where
  pub done : (p : ℕ) (d : DeviceState) (made : Made) → p < i → slice_get old.devices p ≡ Some d → IsLogged old d.setup.id made
      → IsLogged new d.setup.id (with_both d.setup.id t (tuning_at (station_of old.medium d.setup.id)) made)
  pub todo : (p : ℕ) (d : DeviceState) (made : Made) → i ≤ p → slice_get old.devices p ≡ Some d → IsLogged old d.setup.id made → IsLogged new d.setup.id made
  pub medium : new.medium ≡ old.medium
  pub devices : new.devices ≡ old.devices
  pub hearings : hearings_of new.air ≡ hearings_of old.air
  pub sendings : sendings_of new.air ≡ sendings_of old.air
  pub deliveries : new.deliveries ≡ old.deliveries
  pub drops : new.drops ≡ old.drops
  pub cores : (p : ℕ) (d : DeviceState) → p < i → slice_get old.devices p ≡ Some d → IsCoreAt d.core d.power
  pub entries : (e : Entry) → Contains new.air e → Contains old.air e ⊎ Contains (ids_of old) (node_of_entry e)

pub closed_none : (t : ℕ) (w : FieldState) → IsClosedUpto t 0 w w
closed_none t w = record {
  done = λ p d made below at logged. absurd (omega arith);
  todo = λ p d made above at logged. logged;
  medium = refl;
  devices = refl;
  hearings = refl;
  sendings = refl;
  deliveries = refl;
  drops = refl;
  cores = λ p d below at. absurd (omega arith);
  entries = λ e there. inl there;
}

-- one place more
module _ (t i : ℕ) (old now new : FieldState) (field : IsField old) (is : IsClosedUpto t i old now) (goes : GoesSilent t i now new) where
  abbrev state : DeviceState
  state = goes.state

  abbrev own : ℕ
  own = state.setup.id

  abbrev tuning : RadioTuning
  tuning = tuning_at (station_of old.medium own)

  abbrev after : FieldState
  after = with_all own t tuning now

  at_old : slice_get old.devices i ≡ Some state
  at_old = ap (λ (l : List DeviceState). slice_get l i) (sym is.devices) ∙ goes.there

  own_id : Contains (ids_of old) own
  own_id = map_contains id_of old.devices state (contains_at old.devices i state at_old)

  is_after : new ≡ after
  is_after = goes.is ∙ ap (λ (x : RadioTuning). with_all own t x now) (goes.stands ∙ ap (λ (m : MediumState). tuning_at (station_of m own)) is.medium)

  logged_at_other : (p : ℕ) (d : DeviceState) (made : Made) → p ≢ i → slice_get old.devices p ≡ Some d → IsLogged now d.setup.id made
      → IsLogged after d.setup.id made
  logged_at_other p d made other at logged =
      let differ = ids_differ old field i p state d other at_old at in
      logged_still (with_entry own (over_after None t tuning) now) own d.setup.id made (tuning_after None t tuning).last differ
      (logged_still now own d.setup.id made (over_after None t tuning) differ logged)

  logged_at_own : (made : Made) → IsLogged now own made → IsLogged after own (with_both own t tuning made)
  logged_at_own made logged =
      logged_more (with_entry own (over_after None t tuning) now) own (with_past own (over_after None t tuning) made) (tuning_after None t tuning).last
      (logged_more now own made (over_after None t tuning) logged)

  new_entry : (e : Entry) → Contains after.air e → Contains old.air e ⊎ Contains (ids_of old) (node_of_entry e)
  new_entry e there =
      let of_own : (o : Option Past) → Contains (entries_of own o) e → Contains old.air e ⊎ Contains (ids_of old) (node_of_entry e) =
      λ o more. inr (subst (λ (v : ℕ). Contains (ids_of old) v) (sym (entries_own own o e more)) own_id) in
      elim (Contains-append_cases (now.air ++ entries_of own (over_after None t tuning)) (entries_of own (tuning_after None t tuning).last) e there) [
        | inl was ↦ elim (Contains-append_cases now.air (entries_of own (over_after None t tuning)) e was) [
          | inl before ↦ is.entries e before
          | inr more ↦ of_own (over_after None t tuning) more
        ]
        | inr more ↦ of_own (tuning_after None t tuning).last more
      ]

  one_done : (p : ℕ) (d : DeviceState) (made : Made) → p < i + 1 → slice_get old.devices p ≡ Some d → IsLogged old d.setup.id made
      → IsLogged after d.setup.id (with_both d.setup.id t (tuning_at (station_of old.medium d.setup.id)) made)
  one_done p d made below at logged =
      elim (cases_order p i) [
        | inl here ↦
            let is_state : state ≡ d = same_Some _ _ (sym at_old ∙ ap (slice_get old.devices) (sym here) ∙ at) in
            subst (λ (x : DeviceState). IsLogged after x.setup.id (with_both x.setup.id t (tuning_at (station_of old.medium x.setup.id)) made)) is_state
            (logged_at_own made (subst (λ (x : DeviceState). IsLogged now x.setup.id made) (sym is_state) (is.todo p d made (omega arith) at logged)))
        | inr apart ↦ elim apart [
          | inl less ↦ logged_at_other p d _ (λ same. omega (arith, same, less)) at (is.done p d made less at logged)
          | inr more ↦ absurd (omega arith)
        ]
      ]

  one_core : (p : ℕ) (d : DeviceState) → p < i + 1 → slice_get old.devices p ≡ Some d → IsCoreAt d.core d.power
  one_core p d below at =
      elim (cases_order p i) [
        | inl here ↦
            let is_state : state ≡ d = same_Some _ _ (sym at_old ∙ ap (slice_get old.devices) (sym here) ∙ at) in
            subst (λ (x : DeviceState). IsCoreAt x.core x.power) is_state goes.core
        | inr apart ↦ elim apart [ inl less ↦ is.cores p d less at | inr more ↦ absurd (omega arith) ]
      ]

  closed_after : IsClosedUpto t (i + 1) old after
  closed_after = record {
    done = one_done;
    todo = λ p d made above at logged. logged_at_other p d made (λ same. omega (arith, same)) at (is.todo p d made (omega arith) at logged);
    medium = is.medium;
    devices = is.devices;
    hearings = hearings_tuned (now.air ++ entries_of own (over_after None t tuning)) own (tuning_after None t tuning).last
        ∙ hearings_tuned now.air own (over_after None t tuning) ∙ is.hearings;
    sendings = sendings_tuned (now.air ++ entries_of own (over_after None t tuning)) own (tuning_after None t tuning).last
        ∙ sendings_tuned now.air own (over_after None t tuning) ∙ is.sendings;
    deliveries = is.deliveries;
    drops = is.drops;
    cores = one_core;
    entries = new_entry;
  }

  pub closed_more : IsClosedUpto t (i + 1) old new
  closed_more = subst (IsClosedUpto t (i + 1) old) (sym is_after) closed_after

-- what a device has made when it goes off, as its station and the log have it
silent_made : (s : Setup) (t : ℕ) (w : FieldState) (due : List Due) (p : ℕ) (d : Device) (shows : FieldShows s t w due p d)
    → with_both s.id t shows.station.tuning shows.made ≡ (silenced s.id t d).made
silent_made s t w due p d shows =
    ap (λ (k : Tunings). let made : Made = record shows.made { tuned = k.ended } in made)
    (sym (kept_off s.id t shows.station.tuning shows.made.tuned))
    ∙ ap (λ (e : Device). (silenced s.id t e).made) shows.shows.is

-- at the last place
pub all_closed : (t i : ℕ) (old : FieldState) (due : List Due) (new : FieldState) → IsClosedUpto t i old new → i ≡ length old.devices → IsClosed t old due new
all_closed t i old due new is end = record {
  own = λ p s d shows.
      let below = slice_get_within old.devices p shows.state shows.there in
      let with_tuning : RadioTuning → Made = λ x. with_both s.id t x shows.made in
      let logged : IsLogged old shows.state.setup.id shows.made = subst (λ (u : Setup). IsLogged old u.id shows.made) (sym shows.shows.setup) shows.logged in
      let made : IsLogged new s.id (with_both s.id t (tuning_at (station_of old.medium s.id)) shows.made) =
      subst (λ (u : Setup). IsLogged new u.id (with_both u.id t (tuning_at (station_of old.medium u.id)) shows.made)) shows.shows.setup
      (is.done p shows.state shows.made (omega arith) shows.there logged) in
      let stands : tuning_at (station_of old.medium s.id) ≡ shows.station.tuning = ap (λ (o : Option Station). tuning_at o)
      (ap (λ (u : Setup). station_of old.medium u.id) (sym shows.shows.setup) ∙ shows.known.there) in
      subst (IsLogged new s.id) (ap with_tuning stands ∙ silent_made s t old due p d shows) made;
  hearings = is.hearings;
  sendings = is.sendings;
  deliveries = is.deliveries;
  drops = is.drops;
  sums = ap (map windows_of) is.devices;
  powers = ap (map power_of) is.devices;
  cores = subst (λ (l : List DeviceState). All (λ d. IsCoreAt d.core d.power) l) (sym is.devices)
      (λ p d below. is.cores p (get_or old.devices p d) (omega arith) (slice_get-get_or old.devices p d below));
  setups = ap (map setup_of_device) is.devices;
  entries = is.entries;
}
