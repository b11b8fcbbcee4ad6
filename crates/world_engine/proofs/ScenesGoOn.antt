-- The scene of a run after a step: it is that of the log and the devices again.
use Rattle.std.proofs.Common.{◌≡◌, ℕ, ◌<◌, ◌≤◌, ◌↔◌, ◌⊎◌, inl, inr, List, [], ◌∷◌, ◌++◌, map, length, find, ◌==◌, Some, None, Option, refl, sym, ◌∙◌, ap, subst}
use Rattle.std.proofs.Common.{arith, Contains, eq-eqb}
use Rattle.std.proofs.lemmas.Bool.{cond-true, cond-false, cases_eq, ne_eqb}
use Rattle.std.proofs.lemmas.List.{length-map}
use Rattle.std.proofs.lemmas.List.Elements.{Contains-append_cases, Contains-append_left, Contains-append_right}
use Rattle.std.proofs.lemmas.Option.{same_Some}
use Rattle.radio_model.specs.declared.sending.Sending.{Sending}
use Rattle.radio_model.specs.declared.station.Station.{Station}
use Rattle.radio_model.specs.Hearing.{Scene, IsTuned}
use Rattle.radio_model.specs.Holding.{as_it_stands}
use Rattle.radio_model.specs.Stations.{MediumState, sending_of_station, station_of, is_station_of, nodes_of, id_of_station as station_node, on_air}
use Rattle.lwb_base.proofs.Elements.{contains_head, contains_tail, map_contains, of_option}
use Rattle.scenario_text.specs.ScenarioParts.{ScenarioParts}
use Rattle.event_calendar.specs.Orders.{Due}
use Rattle.bus_rules.specs.Cores.{Setup}
use Rattle.air_log.specs.Entries.{sendings_of, node_of_entry}
use Rattle.air_log.specs.Devices.{Device}
use Rattle.air_log.specs.DeviceStates.{DeviceState}
use Rattle.world_engine.specs.Fields.{FieldState, FieldShows, setups_of, ids_of, setup_of_device, id_of}
use Rattle.world_engine.specs.FieldSteps.{IsSceneAfter, MediumGoesOn, AreSame}
use Rattle.world_engine.specs.Running.{Runs, HoldsScene}
use Rattle.air_log.specs.TunedTimes.{WasTuned}
use Rattle.air_log.proofs.TunedBefore.{IsTunedAs}
use Rattle.world_engine.proofs.ShownTunings.{shown_within, alike, alike_back, tuned_alike}

-- ids and number of the devices of a field are those of its setups
ids_from : (xs : List DeviceState) → map id_of xs ≡ map (λ (s : Setup). s.id) (map setup_of_device xs)
ids_from [] = refl
ids_from (x ∷ xs) = ap (λ (l : List ℕ). x.setup.id ∷ l) (ids_from xs)

pub same_ids : (old new : FieldState) → setups_of new ≡ setups_of old → ids_of new ≡ ids_of old
same_ids old new same = ids_from new.devices ∙ ap (map (λ (s : Setup). s.id)) same ∙ sym (ids_from old.devices)

pub same_length : (old new : FieldState) → setups_of new ≡ setups_of old → length new.devices ≡ length old.devices
same_length old new same = omega (arith, length-map new.devices setup_of_device, length-map old.devices setup_of_device, ap length same)

-- a station that is found
pub found_in : (v : ℕ) (xs : List Station) (st : Station) → find (is_station_of v) xs ≡ Some st → Contains xs st × (st.node ≡ v)
found_in v [] st is = cc
found_in v (x ∷ xs) st is =
    elim (cases_eq x.node v) [
      | inl node ↦
          let same : x ≡ st = same_Some x st (sym (cond-true (x.node == v) (Some x) (find (is_station_of v) xs) (eq-eqb x.node v node)) ∙ is) in
          (subst (Contains (x ∷ xs)) same (contains_head x xs), ap station_node (sym same) ∙ node)
      | inr other ↦
          let rest = found_in v xs st (sym (cond-false (x.node == v) (Some x) (find (is_station_of v) xs) (ne_eqb x.node v other)) ∙ is) in
          (contains_tail x xs st rest.0, rest.1)
    ]

pub record IsSendingAt (m : MediumState) (v : ℕ) (x : Sending) : Type 0 where
  pub station : Station
  pub there : Contains m.stations station
  pub node : station.node ≡ v
  pub sends : station.sending ≡ Some x

pub sending_at : (m : MediumState) (v : ℕ) (x : Sending) → sending_of_station (station_of m v) ≡ Some x → IsSendingAt m v x
sending_at m v x runs = by_station (station_of m v) refl runs
  where
    by_station : (o : Option Station) → station_of m v ≡ o → sending_of_station o ≡ Some x → IsSendingAt m v x
    by_station None at sends = cc
    by_station (Some st) at sends = let found = found_in v m.stations st at in record { station = st; there = found.0; node = found.1; sends = sends }

pub on_air_there : (st : Station) (x : Sending) → st.sending ≡ Some x → Contains (on_air st) x
on_air_there st x sends = Contains-append_right st.ended.items _ x (of_option st.sending x sends)

-- what runs is of a device of the field
pub runs_node : (w : FieldState) → ids_of w ≡ nodes_of w.medium → (x : Sending) → Runs w.medium x → Contains (ids_of w) x.node
runs_node w same x runs =
    let at = sending_at w.medium x.node x runs in
    subst (λ (l : List ℕ). Contains l x.node) (sym same)
    (subst (Contains (nodes_of w.medium)) at.node (map_contains station_node w.medium.stations at.station at.there))

-- what is in the log is of a device of the field
-- at a place: the device before a step and after it
pub record IsMoved (t : ℕ) (old : FieldState) (old_due : List Due) (new : FieldState) (new_due : List Due) (p : ℕ) : Type 0 where
  pub setup : Setup
  pub before : Device
  pub after : Device
  pub was : FieldShows setup t old old_due p before
  pub is : FieldShows setup t new new_due p after
  pub stays : IsTunedAs t before after

module _ (s : ScenarioParts) (t : ℕ) (w : FieldState) (due : List Due) (a : Scene) (h : HoldsScene s t w due a) where
  pub runs_sent : (x : Sending) → Runs w.medium x → Contains (sendings_of w.air) x
  runs_sent x runs =
      let at = sending_at w.medium x.node x runs in
      (h.sendings x).0 (h.held.sent x (record { station = at.station; there = at.there; kept = on_air_there at.station x at.sends }))

module _ (s : ScenarioParts) (t : ℕ) (begun : List Sending) (old : FieldState) (old_due : List Due) (new : FieldState) (new_due : List Due)
    (a : Scene) (h : HoldsScene s t old old_due a) (air : MediumGoesOn t old.medium new.medium begun) (same : AreSame old old_due new new_due)
    (sends : sendings_of new.air ≡ sendings_of old.air ++ begun) (starts : (x : Sending) → Contains begun x → (x.start < x.end) × (x.start ≤ t))
    (moved : (p : ℕ) → p < length old.devices → IsMoved t old old_due new new_due p) where
  abbrev pub next : Scene
  next = (air.scene a h.held).0

  pub is_next : IsSceneAfter t old.medium new.medium begun a next
  is_next = (air.scene a h.held).1

  ids : ids_of new ≡ ids_of old
  ids = same_ids old new same.setups

  sent_cases : (x : Sending) → Contains (sendings_of new.air) x → Contains (sendings_of old.air) x ⊎ Contains begun x
  sent_cases x there = Contains-append_cases (sendings_of old.air) begun x (subst (λ (l : List Sending). Contains l x) sends there)

  sent_both : (x : Sending) → Contains next.sendings x ↔ Contains (sendings_of new.air) x
  sent_both x = (
    λ there. subst (λ (l : List Sending). Contains l x) (sym sends)
        (elim (Contains-append_cases a.sendings begun x (subst (λ (l : List Sending). Contains l x) is_next.sendings there)) [
          | inl was ↦ Contains-append_left (sendings_of old.air) begun x ((h.sendings x).0 was)
          | inr now ↦ Contains-append_right (sendings_of old.air) begun x now
        ]),
    λ there. subst (λ (l : List Sending). Contains l x) (sym is_next.sendings) (elim (sent_cases x there) [
      | inl was ↦ Contains-append_left a.sendings begun x ((h.sendings x).1 was)
      | inr now ↦ Contains-append_right a.sendings begun x now
    ]),
  )

  -- who was tuned before the tick
  tuned_both : (q : Setup) (p : ℕ) (d : Device) → FieldShows q t new new_due p d → (r k : ℕ) → k < t → IsTuned (as_it_stands new.medium t next) q.id r k
      ↔ WasTuned d r k
  tuned_both q p d shows r k early =
      let m = moved p (omega (arith, shown_within q t new new_due p d shows, same_length old new same.setups)) in
      let like = alike m.setup q t t new new_due p m.after d m.is shows in
      let scene = is_next.before.tuned m.setup.id r k early in
      let told = h.tuned m.setup p m.before m.was r k early in
      let stays = m.stays.same r k early in
      let back = alike_back m.setup q m.after d like in (
        λ is. tuned_alike m.setup q m.after d like r k
            (stays.1 (told.0 (scene.1 (subst (λ (u : Setup). IsTuned (as_it_stands new.medium t next) u.id r k) back.setup is)))),
        λ is. subst (λ (u : Setup). IsTuned (as_it_stands new.medium t next) u.id r k) like.setup
            (scene.0 (told.1 (stays.0 (tuned_alike q m.setup d m.after back r k is)))),
      )

  pub scene_after : HoldsScene s t new new_due next
  scene_after = record {
    held = is_next.held;
    lines = is_next.lines ∙ h.lines;
    numbers = sym is_next.held.numbers ∙ sym is_next.before.numbers ∙ h.held.numbers ∙ h.numbers;
    time = air.time;
    sendings = sent_both;
    begun = λ x there. elim (sent_cases x there) [ inl was ↦ h.begun x was | inr now ↦ starts x now ];
    tuned = tuned_both;
    known = λ e there. subst (λ (l : List ℕ). Contains l (node_of_entry e)) (sym ids) (elim (same.entries e there) [ inl was ↦ h.known e was | inr own ↦ own ]);
    deliverers = λ d there. subst (λ (l : List ℕ). Contains l d.node) (sym ids) (elim (same.deliverers d there) [
      | inl was ↦ h.deliverers d was
      | inr own ↦ own
    ]);
  }
