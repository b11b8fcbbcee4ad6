-- A field after the ordered transmission of a device has not started.
use Rattle.std.proofs.Common.{◌≡◌, ℕ, List, [], set, Option, Some, None, refl, sym, ◌∙◌, ap}
use Rattle.std.specs.Prelude.{slice_get}
use Rattle.std.specs.Option.{option_map}
use Rattle.std.proofs.lemmas.List.{append-nil, length-set}
use Rattle.std.proofs.lemmas.Option.{get_or_from_slice_get}
use Rattle.lwb_base.proofs.Lists.{set_elsewhere}
use Rattle.radio_model.specs.declared.sending.Sending.{Sending}
use Rattle.radio_model.specs.Stations.{IsTime, station_of}
use Rattle.event_calendar.specs.Orders.{Due, at, changed, nothing_due}
use Rattle.event_calendar.specs.declared.class.Class.TheVariants.{SendingStart}
use Rattle.bus_rules.specs.Cores.{Setup}
use Rattle.air_log.specs.Devices.{Device, OrderedPacket, Made}
use Rattle.air_log.specs.DeviceChanges.{DeviceShows}
use Rattle.air_log.specs.DeviceStates.{DeviceState, whole, IsSameNode, tick_of_ordered, running, RunsUntil}
use Rattle.air_log.specs.Tunings.{Tunings, channel_in, tunings_with}
use Rattle.radio_model.specs.declared.station.Station.{Station}
use Rattle.air_log.specs.Lawful.{sent_by}
use Rattle.air_log.specs.Trails.{device_after_start, sendings_starting}
use Rattle.air_log.proofs.DeviceChanges.{still_shows}
use Rattle.air_log.proofs.RunningSendings.{runs_still}
use Rattle.world_engine.specs.Fields.{FieldState, IsField, IsKnownDevice, FieldShows, FieldIsShown, due_of_device}
use Rattle.world_engine.specs.FieldSteps.{Acts}
use Rattle.world_engine.proofs.BegunDevices.{Answers, silent_with}
use Rattle.world_engine.proofs.DeviceSteps.{IsStepAt, lists_stay, acts_at, field_stays}
use Rattle.world_engine.proofs.DueChanges.{due_changed}
use Rattle.world_engine.proofs.GoesOn.{goes_on_nothing}
use Rattle.world_engine.proofs.ShownPlaces.{shown_as}

-- what the start at a device comes to
abbrev pub Begins : ℕ → ℕ → FieldState → List Due → FieldState → List Due → Type 0
Begins t p old old_due new new_due =
    (x : List Sending) × Acts t p (λ s d. device_after_start s t d) x [] old old_due new new_due
    × ((s : Setup) (d : Device) → FieldShows s t old old_due p d → x ≡ sendings_starting s t d)

-- what a device has in the queue
abbrev pub due_by : Option ℕ → Option ℕ → Option OrderedPacket → Due
due_by end alarm ordered = record { sending_end = end; alarm = alarm; sending_start = option_map tick_of_ordered ordered }

-- at t, at which its order stands, the device at place p becomes another
pub record IsStarting (t p : ℕ) (w : FieldState) (due : List Due) (st new : DeviceState) : Type 0 where
  pub field : IsField w
  pub here : slice_get w.devices p ≡ Some st
  pub node : IsSameNode st new
  pub channel : new.channel ≡ st.channel
  pub stands : at due p SendingStart ≡ Some t
  pub shown : FieldIsShown t w due p
  pub time : IsTime w.medium t

module _ {t p : ℕ} {w : FieldState} {due : List Due} {st new : DeviceState} (start : IsStarting t p w due st new) where
  abbrev pub shows : FieldShows start.shown.setup t w due p start.shown.device
  shows = shown_as start.shown.setup t w due p start.shown.device st start.here start.shown.shows

  abbrev pub station : Station
  station = shows.station

  abbrev pub known : IsKnownDevice w due p st station
  known = shows.known

  -- what it has made by then
  abbrev pub made_before : Made
  made_before = shows.made

  abbrev pub tunings_before : Tunings
  tunings_before = tunings_with start.shown.setup.id station.tuning made_before.tuned

  pub runs_before : RunsUntil st.busy_until made_before.sent
  runs_before = shows.shows.runs

  pub channel_before : channel_in tunings_before ≡ st.channel
  channel_before = shows.shows.channel

  pub ordered : option_map tick_of_ordered st.ordered ≡ Some t
  ordered = ap (λ (d : Due). d.sending_start) (sym (get_or_from_slice_get due p (due_of_device st) nothing_due known.set)) ∙ start.stands

  -- what it is shown as after it, with what it has made by then
  pub start_shows : (s : Setup) (x : Tunings) (made more : Made) (d : Device) → DeviceShows s t st x made d → more.windows ≡ made.windows
      → RunsUntil new.busy_until more.sent → device_after_start st.setup t (whole st x made) ≡ whole new x more
      → DeviceShows s t new x more (device_after_start s t d)
  start_shows s x made more d sh windows runs is =
      still_shows s t st new x made more d (device_after_start s t d) sh start.node start.channel windows runs
      (sym is ∙ ap (λ (u : Setup). device_after_start u t (whole st x made)) sh.setup ∙ ap (device_after_start s t) sh.is)

  pub begun_are : (xs : List Sending) → ((x : Tunings) (made : Made) → RunsUntil st.busy_until made.sent → channel_in x ≡ st.channel
      → sendings_starting st.setup t (whole st x made) ≡ xs) → (s : Setup) (d : Device) → FieldShows s t w due p d → xs ≡ sendings_starting s t d
  begun_are xs are s d shows =
      let sh = shown_as s t w due p d st start.here shows in
      sym (ap (λ (u : Setup). sendings_starting u t d) (sym sh.shows.setup) ∙ ap (sendings_starting st.setup t) (sym sh.shows.is)
      ∙ are (tunings_with s.id sh.station.tuning sh.made.tuned) sh.made sh.shows.runs sh.shows.channel)

  -- where nothing starts
  module _ (is : Answers t st new None) (until : new.busy_until ≡ st.busy_until) where
    abbrev silent_field : FieldState
    silent_field = record w { devices = set w.devices p new }

    abbrev silent_due : List Due
    silent_due = changed due p SendingStart None

    silent_now : whole new tunings_before made_before ≡ record (whole st tunings_before made_before) { ordered = None }
    silent_now = sym (is tunings_before made_before runs_before channel_before)
        ∙ (silent_with t st new ordered tunings_before made_before runs_before channel_before is).is

    step : IsStepAt t p st new station station (λ made. made) [] [] w due silent_field silent_due
    step = record {
      here = start.here;
      was = known.there;
      setup = start.node.setup;
      devices = refl;
      lists = lists_stay st.setup.id w w.medium (set w.devices p new);
      drops = sym (append-nil w.drops);
      medium = goes_on_nothing t w.medium start.time;
      station = record {
        there = ap (λ (u : Setup). station_of w.medium u.id) start.node.setup ∙ known.there;
        sending = known.sending ∙ ap (λ (o : Option ℕ). running o (sent_by w.air st.setup.id)) (sym until)
            ∙ ap (λ (u : Setup). running new.busy_until (sent_by w.air u.id)) (sym start.node.setup);
      };
      stations = λ u other. refl;
      due = due_changed due p SendingStart None (due_of_device st) known.set
          ∙ ap (λ (d : Device). let o : Option Due = Some (due_by st.busy_until d.alarm d.ordered) in o) (sym silent_now)
          ∙ ap (λ (end : Option ℕ). let o : Option Due = Some (due_by end new.alarm new.ordered) in o) (sym until);
      dues = λ q other. set_elsewhere due p q _ other;
      places = length-set due p _;
    }

    pub not_begun : Begins t p w due silent_field silent_due
    not_begun = (
      [],
      acts_at step (λ s d. device_after_start s t d) (λ s made d sh ended. (let x : Tunings = tunings_with s.id station.tuning made.tuned in record {
        windows = made.windows;
        shows = start_shows s x made made d sh refl
            (runs_still st.busy_until new.busy_until made.sent made.sent until refl sh.runs) (is x made sh.runs sh.channel);
        ended = ended;
      })) start.field,
      begun_are [] (λ x made runs channel. (silent_with t st new ordered x made runs channel is).starting),
    )

    pub silent_is_field : IsField silent_field
    silent_is_field = field_stays p w silent_field st new start.field start.here start.node.setup refl start.field.medium refl refl
