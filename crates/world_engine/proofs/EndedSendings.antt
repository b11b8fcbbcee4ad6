-- A field in which the transmission of a device is over, but nobody is notified yet.
use Rattle.std.proofs.Common.{◌≡◌, ℕ, ◌<◌, ◌≤◌, [], set, length, Option, Some, None, List, refl, sym, ◌∙◌, ap, arith}
use Rattle.std.specs.Prelude.{slice_get}
use Rattle.std.specs.Option.{option_map}
use Rattle.std.proofs.lemmas.List.{append-nil, length-set}
use Rattle.std.proofs.lemmas.Option.{slice_get_within, none-some, same_Some}
use Rattle.lwb_base.proofs.Lists.{set_elsewhere}
use Rattle.radio_model.specs.declared.sending.Sending.{Sending}
use Rattle.radio_model.specs.declared.station.Station.{Station}
use Rattle.radio_model.specs.Hearing.{Scene}
use Rattle.radio_model.specs.Holding.{Holds}
use Rattle.radio_model.specs.Stations.{IsTime, Ends, station_of, sending_of_station, station_after_end, medium_after_change}
use Rattle.radio_model.proofs.Changes.{finished_keeps}
use Rattle.radio_model.proofs.NothingBefore.{by_ending}
use Rattle.radio_model.proofs.OneCall.{each_after}
use Rattle.radio_model.proofs.OneStation.{same_nodes, other_station}
use Rattle.radio_model.proofs.Places.{still_medium}
use Rattle.event_calendar.specs.Orders.{Due, changed}
use Rattle.event_calendar.specs.declared.class.Class.TheVariants.{SendingEnd}
use Rattle.air_log.specs.Devices.{Device}
use Rattle.radio_model.proofs.ChangedStations.{station_changed}
use Rattle.air_log.specs.DeviceStates.{DeviceState, running, sending_end}
use Rattle.air_log.specs.Tunings.{Tunings, tunings_with}
use Rattle.air_log.proofs.DeviceChanges.{still_shows}
use Rattle.world_engine.specs.Fields.{FieldState, IsField, IsKnownDevice, FieldIsShown, due_of_device}
use Rattle.world_engine.specs.FieldSteps.{Acts, DeviceSends}
use Rattle.world_engine.proofs.DeviceSteps.{IsStepAt, lists_stay, acts_at, field_stays}
use Rattle.world_engine.proofs.ShownPlaces.{shown_as, station_sends}
use Rattle.world_engine.proofs.DueChanges.{due_changed}

-- the transmission x of the device st at place p ends at t
pub record IsEnding (t p : ℕ) (w : FieldState) (due : List Due) (st : DeviceState) (x : Sending) : Type 0 where
  pub field : IsField w
  pub here : slice_get w.devices p ≡ Some st
  pub shown : (q : ℕ) → q < length w.devices → FieldIsShown t w due q
  pub time : IsTime w.medium t
  pub ends : Ends w.medium st.setup.id t
  pub own : sending_of_station (station_of w.medium st.setup.id) ≡ Some x
  pub until : x.end ≡ t

abbrev pub over : ℕ → ℕ → DeviceState → FieldState → FieldState
over t p st w = record w { medium = medium_after_change t st.setup.id station_after_end w.medium; devices = set w.devices p (record st { busy_until = None }) }

pub one_sending : (r : Option Sending) (x y : Sending) → r ≡ Some x → r ≡ Some y → x ≡ y
one_sending r x y is_x is_y = same_Some x y (sym is_x ∙ is_y)

module _ {t p : ℕ} {w : FieldState} {due : List Due} {st : DeviceState} {x : Sending} (ending : IsEnding t p w due st x) where
  abbrev pub over_due : List Due
  over_due = changed due p SendingEnd None

  at_place : FieldIsShown t w due p
  at_place = ending.shown p (slice_get_within w.devices p st ending.here)

  abbrev station : Station
  station = at_place.shows.station

  known : IsKnownDevice w due p st station
  known = (shown_as at_place.setup t w due p at_place.device st ending.here at_place.shows).known

  -- whatever trail it is of, it sends x
  pub sends_only : (y : Sending) → DeviceSends t w due p y → y ≡ x
  sends_only y sends =
      let sh = shown_as at_place.setup t w due p at_place.device st ending.here at_place.shows in
      one_sending sh.station.sending y x (station_sends at_place.setup t w due p at_place.device sh
      ∙ sends at_place.setup at_place.device at_place.shows) (ap sending_of_station (sym sh.known.there) ∙ ending.own)

  -- and is to end now
  pub ends_at : st.busy_until ≡ Some t
  ends_at =
      let sh = shown_as at_place.setup t w due p at_place.device st ending.here at_place.shows in
      let runs : running st.busy_until sh.made.sent ≡ Some x = ap (λ (d : Device). d.sending) sh.shows.is
      ∙ sym (station_sends at_place.setup t w due p at_place.device sh) ∙ ap sending_of_station (sym sh.known.there) ∙ ending.own in
      sym sh.shows.runs ∙ ap (option_map sending_end) runs ∙ ap (λ (n : ℕ). let o : Option ℕ = Some n in o) ending.until

  pub set_there : p < length due
  set_there = slice_get_within due p (due_of_device st) known.set

  over_time : IsTime (over t p st w).medium t
  over_time = record {
    later = omega arith;
    small = ending.time.small;
    running = λ s y in_it sends.
        each_after w.medium ending.field.medium station_after_end finished_keeps st.setup.id t (λ (k : Station). k.sending ≡ Some y → t ≤ y.end)
        (λ k there own runs. absurd (none-some y runs))
        (λ k there _ runs. ending.time.running k y there runs)
        s in_it sends;
  }

  pub over_is_field : IsField (over t p st w)
  over_is_field =
      field_stays p w (over t p st w) st (record st { busy_until = None }) ending.field ending.here refl refl
      (still_medium station_after_end finished_keeps st.setup.id t w.medium ending.field.medium)
      (same_nodes w.medium t st.setup.id station_after_end finished_keeps.node) refl

  step : ((a : Scene) → Holds w.medium a → Holds (over t p st w).medium a)
      → IsStepAt t p st (record st { busy_until = None }) station (station_after_end station) (λ made. made) [] [] w due (over t p st w) over_due
  step held = record {
    here = ending.here;
    was = known.there;
    setup = refl;
    devices = refl;
    lists = lists_stay st.setup.id w (over t p st w).medium (over t p st w).devices;
    drops = sym (append-nil w.drops);
    medium = record {
      scene = λ a holds. (a, record { held = held a holds; lines = refl; sendings = sym (append-nil a.sendings); before = by_ending w.medium st.setup.id t a });
      time = over_time;
      nodes = same_nodes w.medium t st.setup.id station_after_end finished_keeps.node;
      numbers = refl;
      still = still_medium station_after_end finished_keeps st.setup.id t w.medium;
    };
    station = record {
      there = station_changed station_after_end finished_keeps st.setup.id w.medium t station known.there;
      sending = refl;
    };
    stations = other_station w.medium t st.setup.id station_after_end finished_keeps.node;
    due = due_changed due p SendingEnd None (due_of_device st) known.set;
    dues = λ q other. set_elsewhere due p q _ other;
    places = length-set due p _;
  }

  -- to all others nothing has happened
  pub sending_is_over : ((a : Scene) → Holds w.medium a → Holds (over t p st w).medium a)
      → Acts t p (λ s d. record d { sending = None }) [] [] w due (over t p st w) over_due
  sending_is_over held = acts_at (step held) (λ s d. record d { sending = None })
      (λ s made d sh ended. (let x : Tunings = tunings_with s.id station.tuning made.tuned in record {
        windows = made.windows;
        shows = still_shows s t st (record st { busy_until = None }) x made made d (record d { sending = None }) sh
            (record { setup = refl; delivery = refl; windows = refl }) refl refl refl (ap (λ (e : Device). record e { sending = None }) sh.is);
        ended = ended;
      }))
      ending.field
