-- The device at a place, as code comes to it: from an index into the devices, and what was written back there.
use Rattle.std.proofs.Common.{◌≡◌, ℕ, ◌<◌, List, option_map, set, get_or, length, Some, refl, sym, ◌∙◌, ap, subst}
use Rattle.std.specs.List.{slice_get}
use Rattle.std.proofs.lemmas.Option.{slice_get_within, get_or_from_slice_get}
use Rattle.event_calendar.specs.Orders.{Due}
use Rattle.bus_rules.specs.Cores.{Setup}
use Rattle.bus_rules.specs.declared.delivery.Delivery.{Delivery}
use Rattle.air_log.specs.Devices.{Device}
use Rattle.air_log.specs.DeviceStates.{DeviceState}
use Rattle.air_log.specs.DeviceChanges.{DeviceShows, DeviceIsShown}
use Rattle.air_log.specs.Tunings.{tunings_with}
use Rattle.world_engine.specs.Fields.{FieldState, FieldShows, FieldIsShown, IsField, IsKnownDevice, due_of_device}
use Rattle.world_engine.specs.Following.{rank_of_tuned}
use Rattle.world_engine.proofs.DeviceSteps.{field_stays}
use Rattle.world_engine.proofs.ShownPlaces.{station_channel}

-- code has read this device at an index, which is that of a place, and contracts see the field as another
pub record IsRead (t p : ℕ) (old seen : FieldState) (due : List Due) (i : ℕ) (state : DeviceState) : Type 0 where
  pub same : old ≡ seen
  pub shown : FieldIsShown t seen due p
  pub at : i ≡ p
  pub is : state ≡ get_or old.devices i state
  pub field : IsField old

module _ {t p : ℕ} {old seen : FieldState} {due : List Due} {i : ℕ} {state : DeviceState} (read : IsRead t p old seen due i state) where
  -- whatever trail it is of
  same_as_shown : (s : Setup) (d : Device) → (there : FieldShows s t seen due p d) → there.state ≡ state
  same_as_shown s d there =
      sym (get_or_from_slice_get seen.devices p there.state state there.there) ∙ ap (λ (w : FieldState). get_or w.devices p state) (sym read.same)
      ∙ ap (λ (n : ℕ). get_or old.devices n state) (sym read.at) ∙ sym read.is

  same : read.shown.shows.state ≡ state
  same = same_as_shown read.shown.setup read.shown.device read.shown.shows

  -- of the device that the index gives
  pub state_here : slice_get old.devices p ≡ Some state
  state_here = ap (λ (w : FieldState). slice_get w.devices p) read.same ∙ read.shown.shows.there ∙ ap (λ (d : DeviceState). Some d) same

  pub state_known : IsKnownDevice old due p state read.shown.shows.station
  state_known =
      subst (λ (w : FieldState). IsKnownDevice w due p state read.shown.shows.station) (sym read.same)
      (subst (λ (d : DeviceState). IsKnownDevice seen due p d read.shown.shows.station) same read.shown.shows.known)

  pub state_tuned : option_map rank_of_tuned read.shown.shows.station.tuning.now ≡ state.channel
  state_tuned =
      station_channel read.shown.setup t seen due p read.shown.device read.shown.shows ∙ ap (λ (d : DeviceState). d.channel) same

  -- as the device of some trail
  pub state_shows : (s : Setup) (d : Device) → (there : FieldShows s t seen due p d)
      → DeviceShows s t state (tunings_with s.id there.station.tuning there.made.tuned) there.made d
  state_shows s d there =
      subst (λ (x : DeviceState). DeviceShows s t x (tunings_with s.id there.station.tuning there.made.tuned) there.made d)
      (same_as_shown s d there) there.shows

  pub state_shown : DeviceIsShown t state
  state_shown = record {
    setup = read.shown.setup;
    tunings = tunings_with read.shown.setup.id read.shown.shows.station.tuning read.shown.shows.made.tuned;
    made = read.shown.shows.made;
    device = read.shown.device;
    shows = state_shows read.shown.setup read.shown.device read.shown.shows;
  }

  pub in_queue : p < length due
  in_queue = slice_get_within due p (due_of_device state) state_known.set

  -- the field after it, where the medium stays
  pub field_as_was : (after : DeviceState) → after.setup ≡ state.setup → (deliveries : List Delivery)
      → IsField (record old { devices = set old.devices i after; deliveries = deliveries })
  field_as_was after setup deliveries =
      field_stays p old (record old { devices = set old.devices i after; deliveries = deliveries }) state after read.field state_here setup
      (ap (λ (n : ℕ). set old.devices n after) read.at) read.field.medium refl refl
