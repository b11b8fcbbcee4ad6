-- What a field shows at a place, of the device that is there.
use Rattle.std.proofs.Common.{◌≡◌, ℕ, List, get_or, length, Option, Some, None, option_map, refl, sym, ◌∙◌, ap, subst}
use Rattle.std.specs.Prelude.{slice_get}
use Rattle.std.proofs.lemmas.Option.{slice_get_within, slice_get_read, same_Some}
use Rattle.event_calendar.specs.Orders.{Due}
use Rattle.bus_rules.specs.Cores.{Setup}
use Rattle.air_log.specs.Devices.{Device}
use Rattle.air_log.specs.DeviceStates.{DeviceState, running}
use Rattle.air_log.specs.DeviceChanges.{DeviceShows}
use Rattle.air_log.specs.Lawful.{sent_by}
use Rattle.air_log.specs.Tunings.{tunings_with, channel_of, listening_of}
use Rattle.radio_model.specs.declared.tuning.Tuned.{Tuned}
use Rattle.world_engine.specs.Fields.{FieldState, IsKnownDevice, FieldShows, FieldIsShown, due_of_device}
use Rattle.world_engine.specs.Following.{rank_of_tuned}
use Rattle.world_engine.specs.Runs.{standing}

-- the device that is shown is the one that is there
pub same_state : (s : Setup) (t : ℕ) (w : FieldState) (due : List Due) (p : ℕ) (d : Device) (shows : FieldShows s t w due p d) (st : DeviceState)
    → slice_get w.devices p ≡ Some st → shows.state ≡ st
same_state s t w due p d shows st at = same_Some shows.state st (sym shows.there ∙ at)

-- so it can be shown as that one
abbrev pub shown_as : (s : Setup) (t : ℕ) (w : FieldState) (due : List Due) (p : ℕ) (d : Device) (st : DeviceState) → slice_get w.devices p ≡ Some st
    → FieldShows s t w due p d → FieldShows s t w due p d
shown_as s t w due p d st at shows =
    let same = same_state s t w due p d shows st at in
    record {
      state = st;
      there = at;
      station = shows.station;
      made = shows.made;
      shows = subst (λ (e : DeviceState). DeviceShows s t e (tunings_with s.id shows.station.tuning shows.made.tuned) shows.made d) same shows.shows;
      ended = shows.ended;
      logged = shows.logged;
      known = subst (λ (e : DeviceState). IsKnownDevice w due p e shows.station) same shows.known;
    }

-- what is read at a place that is shown
pub read_there : (t : ℕ) (w : FieldState) (due : List Due) (p : ℕ) (st : DeviceState) → FieldIsShown t w due p → st ≡ get_or w.devices p st
    → slice_get w.devices p ≡ Some st
read_there t w due p st shown is = slice_get_read w.devices (length w.devices) p st refl (slice_get_within w.devices p shown.shows.state shown.shows.there) is

-- the channel of a radio, and of the tuning that goes on
same_channel : (o : Option Tuned) → option_map rank_of_tuned o ≡ option_map channel_of (option_map listening_of o)
same_channel None = refl
same_channel (Some o) = refl

-- what is shown at a place sends what its station sends, and what the queue has of it stands at it
module _ (s : Setup) (t : ℕ) (w : FieldState) (due : List Due) (p : ℕ) (d : Device) (shows : FieldShows s t w due p d) where
  pub runs_logged : running shows.state.busy_until (sent_by w.air shows.state.setup.id) ≡ d.sending
  runs_logged =
      ap (λ (q : Setup). running shows.state.busy_until (sent_by w.air q.id)) shows.shows.setup
      ∙ ap (running shows.state.busy_until) (sym shows.logged.sent) ∙ ap (λ (e : Device). e.sending) shows.shows.is

  pub station_sends : shows.station.sending ≡ d.sending
  station_sends = shows.known.sending ∙ runs_logged

  -- and it is on the channel of its station
  pub station_channel : option_map rank_of_tuned shows.station.tuning.now ≡ shows.state.channel
  station_channel = same_channel shows.station.tuning.now ∙ shows.shows.channel

  pub due_stands : due_of_device shows.state ≡ standing d
  due_stands =
      ap (λ (o : Option ℕ). let queued : Due = record (due_of_device shows.state) { sending_end = o } in queued) (sym shows.shows.runs)
      ∙ ap standing shows.shows.is
