-- A field after the ordered transmission of a device has started.
use Rattle.std.proofs.Common.{◌≡◌, ℕ, ◌+◌, ◌≤◌, List, [], ◌∷◌, ◌++◌, set, length, Option, Some, None, if◌then◌else◌, is_none, option_to_list}
use Rattle.std.proofs.Common.{refl, sym, ◌∙◌, ap, subst, arith, Contains}
use Rattle.std.specs.Prelude.{slice_get}
use Rattle.std.specs.Option.{option_map}
use Rattle.std.proofs.lemmas.List.{append-nil, length-set}
use Rattle.std.proofs.lemmas.Option.{same_Some}
use Rattle.std.proofs.lemmas.List.Elements.{All-contains}
use Rattle.lwb_base.specs.Profile.{Numbers, airtime}
use Rattle.radio_model.specs.declared.sending.Sending.{Sending}
use Rattle.radio_model.specs.declared.station.Station.{Station}
use Rattle.radio_model.specs.declared.tuning.Tuned.{Tuned}
use Rattle.radio_model.specs.Hearing.{Scene}
use Rattle.radio_model.specs.Holding.{Holds, after_starting}
use Rattle.radio_model.specs.Holding as holding
use Rattle.radio_model.specs.Stations.{MediumState, IsTime, station_of, nodes_of, station_after_start, medium_after_change, next_sending, current_or_next}
use Rattle.radio_model.proofs.NothingBefore.{by_starting}
use Rattle.radio_model.proofs.Changes.{started_keeps}
use Rattle.radio_model.proofs.OneCall.{each_after, found_member}
use Rattle.radio_model.proofs.OneStation.{same_nodes, other_station}
use Rattle.lwb_base.proofs.Elements.{map_contains, contains_at}
use Rattle.lwb_base.proofs.Lists.{set_elsewhere}
use Rattle.radio_model.proofs.Places.{Keeps, still_medium}
use Rattle.event_calendar.specs.Orders.{Due, changed}
use Rattle.event_calendar.specs.declared.class.Class.TheVariants.{SendingEnd, SendingStart}
use Rattle.bus_rules.specs.Cores.{Setup}
use Rattle.air_log.specs.Devices.{Device, Made}
use Rattle.air_log.specs.Trails.{device_after_start}
use Rattle.air_log.specs.declared.entry.Entry.TheVariants.{Sent}
use Rattle.air_log.specs.declared.entry.Entry.{Entry}
use Rattle.radio_model.proofs.ChangedStations.{node_of_station, station_changed}
use Rattle.air_log.specs.DeviceStates.{DeviceState, whole, with_sent, running}
use Rattle.air_log.specs.Lawful.{sent_by}
use Rattle.air_log.proofs.RunningSendings.{last_made, runs_on, runs_still}
use Rattle.air_log.specs.Tunings.{Tunings, channel_of, tunings_with}
use Rattle.world_engine.specs.Fields.{FieldState, IsField, due_of_device, id_of, ids_of}
use Rattle.world_engine.specs.Following.{rank_of_tuned}
use Rattle.world_engine.specs.FieldSteps.{MediumGoesOn}
use Rattle.world_engine.proofs.BegunDevices.{Answers, BeginsToSend, sends_now, begins_with}
use Rattle.world_engine.proofs.DeviceSteps.{IsStepAt, lists_sent, acts_at, field_stays}
use Rattle.world_engine.proofs.DueChanges.{due_changed}
use Rattle.world_engine.proofs.LoggedSendings.{sent_own}
use Rattle.world_engine.proofs.NothingBegun.{Begins, IsStarting, due_by, shows, station as station_before, known, made_before, tunings_before, runs_before}
use Rattle.world_engine.proofs.NothingBegun.{channel_before, ordered, start_shows, begun_are}
use Rattle.world_engine.proofs.ShownPlaces.{station_sends, station_channel}

-- a transmission is told by its parts
same_sending : (x : Sending) (rank node start end : ℕ) → rank ≡ x.rank → node ≡ x.node → start ≡ x.start → end ≡ x.end
    → ◌≡◌ {A = Option Sending} (Some (record { rank = rank; node = node; start = start; end = end; packet = x.packet })) (Some x)
same_sending x rank node start end is_rank is_node is_start is_end =
    let made : ℕ → ℕ → ℕ → ℕ → Option Sending = λ r n s e. Some (record { rank = r; node = n; start = s; end = e; packet = x.packet }) in
    ap (λ (r : ℕ). made r node start end) is_rank ∙ ap (λ (n : ℕ). made x.rank n start end) is_node ∙ ap (λ (s : ℕ). made x.rank x.node s end) is_start
    ∙ ap (made x.rank x.node x.start) is_end

module _ {t p : ℕ} {w : FieldState} {due : List Due} {st new : DeviceState} (start : IsStarting t p w due st new) where
  -- where x starts
  module _ (x : Sending) (is : Answers t st new (Some x)) (until : new.busy_until ≡ Some x.end) where
    abbrev station : Station
    station = station_before start

    abbrev change : Station → Station
    change = station_after_start w.medium.numbers t x.packet

    abbrev keeps : Keeps change
    keeps = started_keeps w.medium.numbers t x.packet

    abbrev begun_field : FieldState
    begun_field = record w {
      medium = medium_after_change t x.node change w.medium;
      devices = set w.devices p new;
      air = w.air ++ Sent x ∷ [];
    }

    abbrev begun_due : List Due
    begun_due = changed (changed due p SendingStart None) p SendingEnd (Some x.end)

    abbrev made : Made
    made = made_before start

    abbrev tunings : Tunings
    tunings = tunings_before start

    starts : BeginsToSend st.setup t (whole st tunings made) x
    starts = begins_with t st new (ordered start) tunings made (runs_before start) (channel_before start) x is

    begun_now : whole new tunings (with_sent (Some x) made) ≡ sends_now x (whole st tunings made)
    begun_now = sym (is tunings made (runs_before start) (channel_before start)) ∙ starts.is

    begun_set : slice_get begun_due p ≡ Some (due_of_device new)
    begun_set =
        due_changed (changed due p SendingStart None) p SendingEnd (Some x.end) _ (due_changed due p SendingStart None (due_of_device st) (known start).set)
        ∙ ap (λ (d : Device). let o : Option Due = Some (due_by (Some x.end) d.alarm d.ordered) in o) (sym begun_now)
        ∙ ap (λ (end : Option ℕ). let o : Option Due = Some (due_by end new.alarm new.ordered) in o) (sym until)

    -- the station
    own_node : station.node ≡ x.node
    own_node = node_of_station w.medium.stations st.setup.id station (known start).there ∙ sym starts.node

    numbers : st.setup.profile ≡ w.medium.numbers
    numbers = All-contains (λ (d : DeviceState). d.setup.profile ≡ w.medium.numbers) w.devices st start.field.numbers (contains_at w.devices p st start.here)

    next_by : (o : Option Tuned) → station.tuning.now ≡ o → option_map rank_of_tuned o ≡ Some x.rank
        → next_sending w.medium.numbers t x.packet station.node station.tuning.now ≡ Some x
    next_by None tuned rank = cc
    next_by (Some o) tuned rank =
        let same : o.rank ≡ x.rank = cc in
        ap (next_sending w.medium.numbers t x.packet station.node) tuned
        ∙ same_sending x o.rank station.node t (t + airtime w.medium.numbers (length x.packet)) same own_node (sym starts.start)
        (ap (λ (m : Numbers). t + airtime m (length x.packet)) (sym numbers) ∙ sym starts.end)

    next : next_sending w.medium.numbers t x.packet station.node station.tuning.now ≡ Some x
    next =
        next_by station.tuning.now refl
        (station_channel start.shown.setup t w due p start.shown.device (shows start) ∙ sym (channel_before start)
        ∙ ap (option_map channel_of) starts.listens ∙ ap (λ (r : ℕ). let o : Option ℕ = Some r in o) (sym starts.rank))

    station_silent : station.sending ≡ None
    station_silent =
        station_sends start.shown.setup t w due p start.shown.device (shows start) ∙ ap (λ (e : Device). e.sending) (sym (shows start).shows.is) ∙ starts.silent

    sends_x : (change station).sending ≡ Some x
    sends_x = ap (λ (o : Option Sending). current_or_next o
        (next_sending w.medium.numbers t x.packet station.node station.tuning.now)) station_silent ∙ next

    -- what runs of its transmissions in the log
    runs_now : running new.busy_until (sent_by begun_field.air new.setup.id) ≡ Some x
    runs_now =
        ap (λ (o : Option ℕ). running o (sent_by begun_field.air new.setup.id)) until
        ∙ ap (λ (u : Setup). running (Some x.end) (sent_by begun_field.air u.id)) start.node.setup
        ∙ ap (running (Some x.end)) (sent_own w.air x st.setup.id starts.node)
        ∙ last_made (sent_by w.air st.setup.id) x

    station_of_x : station_of w.medium x.node ≡ Some station
    station_of_x = ap (station_of w.medium) starts.node ∙ (known start).there

    station_now : station_of begun_field.medium x.node ≡ Some (change station)
    station_now = station_changed change keeps x.node w.medium t
        station station_of_x

    scene_begins : holding.sending_at_start w.medium.numbers t x.packet (station_of w.medium x.node) ≡ Some x
    scene_begins =
        ap (holding.sending_at_start w.medium.numbers t x.packet) station_of_x
        ∙ ap (λ (o : Option Sending).
        if is_none o then next_sending w.medium.numbers t x.packet station.node station.tuning.now else None) station_silent
        ∙ next

    begun_time : IsTime begun_field.medium t
    begun_time = record {
      later = omega arith;
      small = start.time.small;
      running = λ st y in_it sends.
          each_after w.medium start.field.medium change keeps x.node t
          (λ s. s.sending ≡ Some y → t ≤ y.end)
          (λ s there own runs. of_own s there own runs)
          (λ s there _ runs. start.time.running s y there runs)
          st in_it sends;
    }
      where
        of_own : {y : Sending} (s : Station) → Contains w.medium.stations s → s.node ≡ x.node
            → (change s).sending ≡ Some y → t ≤ y.end
        of_own {y = y} s there own runs =
            let found : station_of w.medium x.node ≡ Some s = ap (station_of w.medium) (sym own)
            ∙ found_member w.medium.stations s start.field.medium.nodes.ascending there in
            let same : station ≡ s = same_Some station s (sym station_of_x ∙ found) in
            let is_y : x ≡ y = same_Some x y (sym sends_x ∙ ap (λ (k : Station). (change k).sending) same ∙ runs) in
            omega (arith, starts.end, ap (λ (z : Sending). z.end) is_y)

    begun_goes_on : (held : (a : Scene) → Holds w.medium a → Holds begun_field.medium (after_starting w.medium x.node t x.packet a))
        → MediumGoesOn t w.medium begun_field.medium (x ∷ [])
    begun_goes_on held = record {
      scene = λ a holds. (
        after_starting w.medium x.node t x.packet a,
        record {
          held = held a holds;
          lines = refl;
          sendings = ap (λ (o : Option Sending). a.sendings ++ option_to_list o) scene_begins;
          before = by_starting w.medium x.node t x.packet a;
        },
      );
      time = begun_time;
      nodes = same_nodes w.medium t x.node change keeps.node;
      numbers = refl;
      still = still_medium change keeps x.node t w.medium;
    }

    step : ((a : Scene) → Holds w.medium a → Holds begun_field.medium (after_starting w.medium x.node t x.packet a))
        → IsStepAt t p st new station (change station) (λ made. record made { sent = made.sent ++ x ∷ [] }) (x ∷ []) [] w due begun_field begun_due
    step held = record {
      here = start.here;
      was = (known start).there;
      setup = start.node.setup;
      devices = refl;
      lists = lists_sent st.setup.id x w begun_field.medium (set w.devices p new) starts.node;
      drops = sym (append-nil w.drops);
      medium = begun_goes_on held;
      station = record {
        there = ap (λ (u : Setup). station_of begun_field.medium u.id) start.node.setup ∙ ap (station_of begun_field.medium) (sym starts.node) ∙ station_now;
        sending = sends_x ∙ sym runs_now;
      };
      stations = λ u other. other_station w.medium t x.node change
          keeps.node u (λ same. other (same ∙ starts.node));
      due = begun_set;
      dues = λ q other. set_elsewhere (changed due p SendingStart None) p q _ other ∙ set_elsewhere due p q _ other;
      places = length-set (changed due p SendingStart None) p _ ∙ length-set due p _;
    }

    begins_here : ((a : Scene) → Holds w.medium a → Holds begun_field.medium (after_starting w.medium x.node t x.packet a))
        → Begins t p w due begun_field begun_due
    begins_here held = (
      x ∷ [],
      acts_at (step held) (λ s d. device_after_start s t d)
          (λ s made d sh ended. (let k : Tunings = tunings_with s.id station.tuning made.tuned in record {
            windows = made.windows;
            shows = start_shows start s k made (record made { sent = made.sent ++ x ∷ [] }) d sh refl
                (runs_still (Some x.end) new.busy_until (made.sent ++ x ∷ []) (made.sent ++ x ∷ []) until refl
                (runs_on st.busy_until made.sent (Some x) sh.runs)) (is k made sh.runs sh.channel);
            ended = ended;
          })) start.field,
      begun_are start (x ∷ []) (λ k made runs channel. (begins_with t st new (ordered start) k made runs channel x is).starting),
    )

    -- with the medium and the log as the code has them
    pub has_begun : (m : MediumState) → m ≡ begun_field.medium
        → ((a : Scene) → Holds w.medium a → Holds m (after_starting w.medium x.node t x.packet a)) → (air : List Entry) → air ≡ begun_field.air
        → Begins t p w due (record begun_field { medium = m; air = air }) begun_due
    has_begun m state held air pushed =
        subst (λ (l : List Entry). Begins t p w due (record begun_field { medium = m; air = l }) begun_due) (sym pushed)
        (subst (λ (k : MediumState). Begins t p w due (record begun_field { medium = k }) begun_due) (sym state)
        (begins_here (subst (λ (k : MediumState). (a : Scene) → Holds w.medium a → Holds k (after_starting w.medium x.node t x.packet a)) state held)))

    -- what the code asks and keeps
    pub has_station : Contains (nodes_of w.medium) x.node
    has_station = subst (λ (l : List ℕ). Contains l x.node) start.field.nodes
        (subst (λ (n : ℕ). Contains (ids_of w) n) (sym starts.node) (map_contains id_of w.devices st (contains_at w.devices p st start.here)))

    pub begun_is_field : (air : List Entry) → IsField (record begun_field { air = air })
    begun_is_field air =
        field_stays p w (record begun_field { air = air }) st new start.field start.here start.node.setup refl
        (still_medium change keeps x.node t w.medium start.field.medium)
        (same_nodes w.medium t x.node change keeps.node) refl

-- with the field, the place and the queue as they are given
pub as_given : {t i p : ℕ} {w given : FieldState} {due after given_due : List Due} {new : FieldState} → w ≡ given → i ≡ p → given_due ≡ after
    → Begins t i w due new after → Begins t p given due new given_due
as_given {t} {i} {p} {w} {given} {due} {after} {given_due} {new} same place queue is =
    subst (λ (v : FieldState). Begins t p v due new given_due) same
    (subst (λ (k : ℕ). Begins t k w due new given_due) place (subst (λ (q : List Due). Begins t i w due new q) (sym queue) is))
