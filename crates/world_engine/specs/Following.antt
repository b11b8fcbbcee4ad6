-- What the medium, the queue and the log get of a device that has changed.
use Rattle.std.specs.Prelude.{◌≡◌, ◌≢◌, ℕ, List, [], ◌++◌, length, slice_get, Some}
use Rattle.std.specs.declared.option.Option.{Option}
use Rattle.std.specs.Option.{option_map}
use Rattle.event_calendar.specs.Orders.{Due, tick_of, with_tick}
use Rattle.event_calendar.specs.declared.class.Class.{Class}
use Rattle.event_calendar.specs.declared.class.Class.TheVariants.{Alarm, SendingStart}
use Rattle.radio_model.specs.declared.station.Station.{Station}
use Rattle.radio_model.specs.Stations.{MediumState, station_of, station_after_tuning, over_after}
use Rattle.radio_model.specs.declared.tuning.Past.{Past}
use Rattle.radio_model.specs.declared.tuning.Tuned.{Tuned}
use Rattle.air_log.specs.declared.settings.Settings.{Settings}
use Rattle.air_log.specs.DeviceStates.{DeviceState, settings_of}
use Rattle.world_engine.specs.Fields.{FieldState, entries_of}
use Rattle.world_engine.specs.FieldSteps.{MediumGoesOn}

abbrev pub rank_of_tuned : Tuned → ℕ
rank_of_tuned o = o.rank

-- at t the station of a node gets from one channel to another, or off: this tuning goes on no more, and no transmission begins
pub record Retunes (t v : ℕ) (from to : Option ℕ) (over : Option Past) (old new : MediumState) : Type 0 where
  pub goes_on : MediumGoesOn t old new []
  pub own : (x : Station) → station_of old v ≡ Some x → option_map rank_of_tuned x.tuning.now ≡ from
      → (station_of new v ≡ Some (station_after_tuning to t x)) × (over ≡ over_after to t x.tuning)
  pub others : (u : ℕ) → u ≢ v → station_of new u ≡ station_of old u

-- at a place the tick of a class gets from one to another, or to none
pub record Resets (p : ℕ) (class : Class) (from to : Option ℕ) (old new : List Due) : Type 0 where
  pub own : (d : Due) → slice_get old p ≡ Some d → tick_of class d ≡ from → slice_get new p ≡ Some (with_tick class to d)
  pub others : (q : ℕ) → q ≢ p → slice_get new q ≡ slice_get old q
  pub places : length new ≡ length old

-- they get what is set at the device at the place in place of what was set before, and the log the tuning that goes on no more
pub record Follows (t p : ℕ) (before : Settings) (state : DeviceState) (old : FieldState) (old_due : List Due)
    (new : FieldState) (new_due : List Due) : Type 0 where
  pub over : Option Past
  pub medium : Retunes t state.setup.id before.channel state.channel over old.medium new.medium
  pub between : List Due
  pub alarm : Resets p Alarm before.alarm (settings_of state).alarm old_due between
  pub start : Resets p SendingStart before.sending (settings_of state).sending between new_due
  pub rest : new ≡ record old { medium = new.medium; air = old.air ++ entries_of state.setup.id over }
