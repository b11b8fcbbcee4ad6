-- A device that has changed, with what follows it in the field.
use Rattle.std.proofs.Common.{◌≡◌, ℕ, ◌<◌, List, [], ◌++◌, set, get_or, length, Option, Some, option_map, option_to_list, refl, sym, ◌∙◌, ap, subst}
use Rattle.std.specs.Prelude.{All, Contains}
use Rattle.std.specs.List.{slice_get}
use Rattle.std.proofs.lemmas.List.{append-nil}
use Rattle.std.proofs.lemmas.Option.{slice_get_within, slice_get_read, slice_get-map}
use Rattle.event_calendar.specs.Orders.{Due}
use Rattle.event_calendar.specs.declared.class.Class.TheVariants.{Alarm, SendingStart}
use Rattle.lwb_base.specs.Profile.{Numbers}
use Rattle.lwb_base.proofs.Elements.{contains_at}
use Rattle.bus_rules.specs.Cores.{Setup}
use Rattle.bus_rules.specs.declared.delivery.Delivery.{Delivery}
use Rattle.bus_rules.specs.declared.delivery.DropLine.{DropLine}
use Rattle.radio_model.specs.declared.station.Station.{Station}
use Rattle.radio_model.specs.Stations.{MediumState, nodes_of, station_of, station_after_tuning, tuning_after, over_after}
use Rattle.radio_model.specs.OnAir.{Tuning}
use Rattle.radio_model.specs.declared.tuning.Past.{Past}
use Rattle.radio_model.specs.declared.tuning.RadioTuning.{RadioTuning}
use Rattle.radio_model.proofs.TunedStations.{sends_still}
use Rattle.scenario_text.specs.declared.script.ScriptLine.{ScriptLine}
use Rattle.air_log.specs.declared.entry.Entry.{Entry}
use Rattle.air_log.specs.declared.settings.Settings.{Settings}
use Rattle.air_log.specs.AlarmRuns.{after_alarms, IsAlarmRun}
use Rattle.air_log.specs.Devices.{Device, Made}
use Rattle.air_log.specs.ScriptedDevices.{device_after_act}
use Rattle.air_log.specs.Trails.{alarmed}
use Rattle.air_log.specs.Drops.{drop_of_line}
use Rattle.air_log.specs.DeviceStates.{DeviceState, settings_of, running}
use Rattle.air_log.specs.Lawful.{sent_by}
use Rattle.air_log.specs.Tunings.{Tunings, EndedBefore, one_more, tunings_with}
use Rattle.air_log.specs.DeviceChanges.{DeviceShows, DeviceGoes, Delivers, TakesAlarms, made_more}
use Rattle.air_log.proofs.DeviceChanges.{other_tuned}
use Rattle.air_log.proofs.KeptTunings.{kept_ended, kept_goes}
use Rattle.air_log.proofs.AlarmsTaken.{all_taken}
use Rattle.world_engine.specs.Fields.{FieldState, FieldShows, IsField, IsKnownDevice, entries_of, due_of_device, ids_of, id_of}
use Rattle.world_engine.specs.FieldSteps.{MediumGoesOn, Acts, TakesLine}
use Rattle.world_engine.specs.Following.{Retunes, Resets, Follows}
use Rattle.world_engine.proofs.ActsInTurn.{acts_as, acts_seen}
use Rattle.world_engine.proofs.DevicePlaces.{at_set}
use Rattle.world_engine.proofs.DeviceSteps.{IsStepAt, ShowsWith, listed, lists_listed, acts_at, sent_same}
use Rattle.world_engine.proofs.StepsInCode.{IsRead, state_here, state_known, state_tuned, state_shows}

-- the device that is read at an index, and its node
pub device_at : (w : FieldState) (p i : ℕ) (state : DeviceState) → i ≡ p → p < length w.devices → state ≡ get_or w.devices i state
    → slice_get w.devices p ≡ Some state
device_at w p i state at within is =
    slice_get_read w.devices (length w.devices) p state refl within (is ∙ ap (λ (n : ℕ). get_or w.devices n state) at)

pub node_in_medium : (w : FieldState) (p : ℕ) (state : DeviceState) → IsField w → slice_get w.devices p ≡ Some state
    → Contains (nodes_of w.medium) state.setup.id
node_in_medium w p state field here = subst (λ (l : List ℕ). Contains l state.setup.id) field.nodes
    (contains_at (ids_of w) p state.setup.id (slice_get-map id_of w.devices p ∙ ap (λ (o : Option DeviceState). option_map id_of o) here))

-- the field where its medium goes on
pub field_tuned : (t : ℕ) (w : FieldState) (m : MediumState) (air : List Entry) → IsField w → MediumGoesOn t w.medium m []
    → IsField (record w { medium = m; air = air })
field_tuned t w m air field goes = record {
  medium = goes.still field.medium;
  nodes = field.nodes ∙ sym goes.nodes;
  numbers = subst (λ (n : Numbers). All (λ d. d.setup.profile ≡ n) w.devices) (sym goes.numbers) field.numbers;
}

-- as code comes to what follows it
pub follows_so : (t p : ℕ) (before now : Settings) (node : ℕ) (state : DeviceState) (over : Option Past) (old seen new : FieldState) (m : MediumState)
    (old_due between new_due : List Due) → node ≡ state.setup.id → now ≡ settings_of state → Retunes t node before.channel now.channel over old.medium m
    → Resets p Alarm before.alarm now.alarm old_due between → Resets p SendingStart before.sending now.sending between new_due
    → old ≡ seen → new ≡ record old { medium = m; air = old.air ++ entries_of node over }
    → Follows t p before state seen old_due new new_due
follows_so t p before now node state over old seen new m old_due between new_due is_node is_now medium alarm start same is =
    let next : FieldState = record old { medium = m; air = old.air ++ entries_of state.setup.id over } in
    let follows : Follows t p before state old old_due next new_due = record {
      over = over;
      medium = subst (λ (v : ℕ). Retunes t v before.channel state.channel over old.medium m) is_node
          (subst (λ (x : Settings). Retunes t node before.channel x.channel over old.medium m) is_now medium);
      between = between;
      alarm = subst (λ (x : Settings). Resets p Alarm before.alarm x.alarm old_due between) is_now alarm;
      start = subst (λ (x : Settings). Resets p SendingStart before.sending x.sending between new_due) is_now start;
      rest = refl;
    } in
    let is_next : new ≡ next = is ∙ ap (λ (v : ℕ). let w : FieldState = record old { medium = m; air = old.air ++ entries_of v over } in w) is_node in
    subst (λ (w : FieldState). Follows t p before state w old_due new new_due) same
    (subst (λ (w : FieldState). Follows t p before state old old_due w new_due) (sym is_next) follows)

-- a device that goes through a change, with what its station and the log have of its tunings then
goes_with : (t : ℕ) (change : Setup → Device → Device) (state after : DeviceState) (over : Option Past) (ds : List Delivery) (from : Station)
    → DeviceGoes t change state after ds → over ≡ over_after after.channel t from.tuning → (s : Setup) (made : Made) (d : Device)
    → DeviceShows s t state (tunings_with s.id from.tuning made.tuned) made d → EndedBefore t made.tuned
    → ShowsWith s t after (station_after_tuning after.channel t from) (listed state.setup.id over ds made) (change s d)
goes_with t change state after over ds from goes is_over s made d sh ended =
    let x : RadioTuning = from.tuning in
    let then : RadioTuning = tuning_after after.channel t x in
    let gone : List Tuning = one_more s.id (over_after after.channel t x) made.tuned in
    let next = goes.shows s (tunings_with s.id x made.tuned) made d sh in
    let more : Made = made_more ds next.0 made in
    let shows : DeviceShows s t after (tunings_with s.id then gone) more (change s d) = subst (λ (k : Tunings). DeviceShows s t after k more (change s d))
    (kept_goes s.id t x made.tuned sh.tuned ended after.channel) next.1 in
    let same : gone ≡ one_more state.setup.id over made.tuned = ap (λ (u : Setup). one_more u.id (over_after after.channel t x) made.tuned) (sym sh.setup)
    ∙ ap (λ (o : Option Past). one_more state.setup.id o made.tuned) (sym is_over) in
    let es : List Tuning = one_more state.setup.id over made.tuned in
    record {
      windows = next.0;
      shows = other_tuned s t after (tunings_with s.id then es) more (change s d) es
          (subst (λ (l : List Tuning). DeviceShows s t after (tunings_with s.id then l) more (change s d)) same shows);
      ended = subst (EndedBefore t) same (kept_ended s.id t x made.tuned sh.tuned ended after.channel);
    }

-- a device that was read has changed, and what follows it has been done
module _ {t p : ℕ} {old seen : FieldState} {due : List Due} {i : ℕ} {state : DeviceState} (read : IsRead t p old seen due i state) (after : DeviceState) where
  pub after_there : slice_get (set old.devices i after) p ≡ Some after
  after_there = ap (λ (n : ℕ). slice_get (set old.devices n after) p) read.at
      ∙ at_set old.devices p after (slice_get_within old.devices p state (state_here read))

  pub mid_within : p < length (set old.devices i after)
  mid_within = slice_get_within (set old.devices i after) p after after_there

module _ {t p : ℕ} {old seen : FieldState} {due : List Due} {i : ℕ} {state after : DeviceState} {before : Settings} {l : List Delivery}
    {new : FieldState} {new_due : List Due} (read : IsRead t p old seen due i state) (is_before : before ≡ settings_of state)
    (follows : Follows t p before after (record old { devices = set old.devices i after; deliveries = l }) due new new_due) where
  module _ {change : Setup → Device → Device} (delivers : Delivers t change state after old.deliveries l) where
    abbrev goes : DeviceGoes t change state after delivers.0
    goes = delivers.2

    abbrev station : Station
    station = read.shown.shows.station

    abbrev station_after : Station
    station_after = station_after_tuning after.channel t station

    followed_losing : (lost : List DropLine) → Acts t p change [] lost seen due (record new { drops = new.drops ++ lost }) new_due
    followed_losing lost =
        acts_seen read.same (acts_at step change (goes_with t change state after follows.over delivers.0 station goes own.1) read.field)
      where
        known : IsKnownDevice old due p state station
        known = state_known read

        own : (station_of new.medium after.setup.id ≡ Some station_after) × (follows.over ≡ over_after after.channel t station.tuning)
        own =
            follows.medium.own station (ap (λ (s : Setup). station_of old.medium s.id) goes.setup ∙ known.there)
            (state_tuned read ∙ ap (λ (s : Settings). s.channel) (sym is_before))

        air_after : new.air ≡ old.air ++ entries_of state.setup.id follows.over
        air_after = ap (λ (w : FieldState). w.air) follows.rest ∙ ap (λ (s : Setup). old.air ++ entries_of s.id follows.over) goes.setup

        sent_after : sent_by new.air after.setup.id ≡ sent_by old.air after.setup.id
        sent_after = ap (λ (air : List Entry). sent_by air after.setup.id) air_after ∙ sent_same old.air after.setup.id state.setup.id follows.over

        step : IsStepAt t p state after station station_after (listed state.setup.id follows.over delivers.0) [] lost old due
            (record new { drops = new.drops ++ lost }) new_due
        step = record {
          here = state_here read;
          was = known.there;
          setup = goes.setup;
          devices = ap (λ (w : FieldState). w.devices) follows.rest ∙ ap (λ (n : ℕ). set old.devices n after) read.at;
          lists = lists_listed state.setup.id follows.over delivers.0 old (record new { drops = new.drops ++ lost }) goes.own air_after
              (ap (λ (w : FieldState). w.deliveries) follows.rest ∙ delivers.1);
          drops = ap (λ (w : FieldState). w.drops ++ lost) follows.rest;
          medium = follows.medium.goes_on;
          station = record {
            there = own.0;
            sending = sends_still after.channel t station ∙ known.sending
                ∙ ap (λ (o : Option ℕ). running o (sent_by old.air state.setup.id)) (sym goes.busy)
                ∙ ap (λ (s : Setup). running after.busy_until (sent_by old.air s.id)) (sym goes.setup)
                ∙ ap (running after.busy_until) (sym sent_after);
          };
          stations = λ u other. follows.medium.others u (λ same. other (same ∙ ap (λ (s : Setup). s.id) goes.setup));
          due =
              follows.start.own _ (follows.alarm.own (due_of_device state) known.set (ap (λ (s : Settings). s.alarm) (sym is_before)))
              (ap (λ (s : Settings). s.sending) (sym is_before))
              ∙ ap (λ (o : Option ℕ). let queued : Option Due = Some (record (due_of_device after) { sending_end = o }) in queued) (sym goes.busy);
          dues = λ q other. follows.start.others q other ∙ follows.alarm.others q other;
          places = follows.start.places ∙ follows.alarm.places;
        }

    pub followed : Acts t p change [] [] seen due new new_due
    followed = subst (λ (drops : List DropLine). Acts t p change [] [] seen due (record new { drops = drops }) new_due) (append-nil new.drops)
        (followed_losing [])

  -- the alarms of the tick
  pub alarms_followed : {clock : ℕ → ℕ} → TakesAlarms clock t state after old.deliveries l
      → ((s : Setup) (d : Device) → FieldShows s t seen due p d → IsAlarmRun clock s t d (alarmed clock s t d))
      → Acts t p (λ s d. alarmed clock s t d) [] [] seen due new new_due
  alarms_followed {clock} takes runs =
      acts_as t p (λ s d. after_alarms clock s t takes.count d) (λ s d. alarmed clock s t d) [] [] seen new due new_due
      (λ s d shows. all_taken clock t state after old.deliveries l takes s (tunings_with s.id shows.station.tuning shows.made.tuned) shows.made d
      (state_shows read s d shows) (runs s d shows))
      (followed {change = λ s d. after_alarms clock s t takes.count d} (takes.deliveries, takes.listed, takes.taken.goes))

  -- a line of the script
  pub line_followed : (clock : ℕ → ℕ) (line : ScriptLine) (lost : Option DropLine)
      → Delivers t (λ s d. device_after_act clock s t d line.act d.power) state after old.deliveries l
      → lost ≡ drop_of_line (record line { node = state.setup.id }) state.power
      → ((s : Setup) (d : Device) → FieldShows s t seen due p d → line.node ≡ s.id)
      → TakesLine clock line t p line.act seen due (record new { drops = new.drops ++ option_to_list lost }) new_due
  line_followed clock line lost delivers is_lost own = (
    option_to_list lost,
    followed_losing {change = λ s d. device_after_act clock s t d line.act d.power} delivers (option_to_list lost),
    λ s d shows.
        let sh = state_shows read s d shows in
        ap (λ (o : Option DropLine). option_to_list o) is_lost
        ∙ ap (λ (v : ℕ). option_to_list (drop_of_line (record line { node = v }) state.power))
        (ap (λ (u : Setup). u.id) sh.setup ∙ sym (own s d shows))
        ∙ ap (λ (x : Device). option_to_list (drop_of_line line x.power)) sh.is,
  )
