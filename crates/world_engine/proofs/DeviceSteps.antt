-- A step of the device at one place: what it is to the lists, to the devices at other places, and to the queue.
use Rattle.std.proofs.Common.{◌≡◌, ◌≢◌, ℕ, ◌<◌, List, [], ◌∷◌, ◌++◌, map, filter, reverse, set, length, Option, Some, None, option_map}
use Rattle.std.proofs.Common.{◌⊎◌, ◌==◌, if◌then◌else◌, refl, sym, ◌∙◌, ap, subst, inl, inr, eq-eqb}
use Rattle.std.specs.Prelude.{Contains, All, AllPairs}
use Rattle.std.specs.List.{slice_get}
use Rattle.std.proofs.lemmas.Bool.{cond-true, cond-false, ne_eqb}
use Rattle.std.proofs.lemmas.List.{append-nil, reverse-append}
use Rattle.std.proofs.lemmas.List.Elements.{filter-append, filter_map-append, Contains-append_cases, Contains-push_cases}
use Rattle.std.proofs.lemmas.List.Elements.{All-set, All-head, All-tail, All-contains}
use Rattle.lwb_base.specs.Profile.{Numbers}
use Rattle.std.proofs.lemmas.Option.{slice_get-map, slice_get_within, get_or_from_slice_get, same_Some}
use Rattle.event_calendar.specs.Orders.{Due}
use Rattle.bus_rules.specs.Cores.{Setup}
use Rattle.bus_rules.specs.declared.delivery.Delivery.{Delivery}
use Rattle.bus_rules.specs.declared.delivery.DropLine.{DropLine}
use Rattle.radio_model.specs.OnAir.{Sending, Tuning}
use Rattle.radio_model.specs.declared.station.Station.{Station}
use Rattle.radio_model.specs.Stations.{MediumState, IsMedium, station_of, nodes_of}
use Rattle.lwb_base.proofs.Elements.{contains_cases, not_in_none, contains_at}
use Rattle.lwb_base.proofs.Lists.{set_elsewhere, map_stays}
use Rattle.air_log.specs.declared.entry.Entry.{Entry}
use Rattle.air_log.specs.declared.entry.Entry.TheVariants.{Sent}
use Rattle.radio_model.specs.declared.tuning.Past.{Past}
use Rattle.air_log.specs.Entries.{sending_in, hearing_in, tuning_in, sendings_of, hearings_of, tunings_of, node_of_entry}
use Rattle.air_log.specs.Lawful.{sent_by, tuned_by}
use Rattle.air_log.specs.Devices.{Device, Made}
use Rattle.air_log.specs.DeviceStates.{DeviceState, running}
use Rattle.air_log.specs.Tunings.{EndedBefore, past_tuning, one_more, tunings_with}
use Rattle.air_log.specs.DeviceChanges.{DeviceShows}
use Rattle.air_log.specs.WindowLogs.{WindowLog}
use Rattle.air_log.proofs.LoggedEntries.{sendings_sent, hearings_sent}
use Rattle.world_engine.specs.Fields.{FieldState, FieldShows, IsField, IsLogged, entries_of, setup_of_device, id_of, ids_of}
use Rattle.world_engine.specs.Fields.{due_of_device}
use Rattle.world_engine.specs.FieldSteps.{MediumGoesOn, AreSame, Acts}
use Rattle.world_engine.proofs.ActsInTurn.{same_ids}
use Rattle.world_engine.proofs.DevicePlaces.{at_set, apart_at}
use Rattle.world_engine.proofs.LoggedSendings.{sent_own, sent_other, tuned_beside_sent}
use Rattle.world_engine.proofs.ShownPlaces.{shown_as}

-- the log with the entry of a tuning of a node more, if there is one
pub hearings_tuned : (air : List Entry) (v : ℕ) (o : Option Past) → hearings_of (air ++ entries_of v o) ≡ hearings_of air
hearings_tuned air v None = ap hearings_of (append-nil air)
hearings_tuned air v (Some p) = filter_map-append hearing_in air (entries_of v (Some p)) ∙ append-nil (hearings_of air)

pub sendings_tuned : (air : List Entry) (v : ℕ) (o : Option Past) → sendings_of (air ++ entries_of v o) ≡ sendings_of air
sendings_tuned air v None = ap sendings_of (append-nil air)
sendings_tuned air v (Some p) = filter_map-append sending_in air (entries_of v (Some p)) ∙ append-nil (sendings_of air)

tuned_more : (air : List Entry) (u v : ℕ) (p : Past)
    → tuned_by (air ++ entries_of v (Some p)) u ≡ tuned_by air u ++ (if v == u then past_tuning v p ∷ [] else [])
tuned_more air u v p =
    ap (λ (l : List Tuning). filter (λ (t : Tuning). t.node == u) l) (filter_map-append tuning_in air (entries_of v (Some p)))
    ∙ filter-append (λ (t : Tuning). t.node == u) (tunings_of air) (past_tuning v p ∷ [])

pub tuned_own : (air : List Entry) (v : ℕ) (o : Option Past) → reverse (tuned_by (air ++ entries_of v o) v) ≡ one_more v o (reverse (tuned_by air v))
tuned_own air v None = ap (λ (l : List Entry). reverse (tuned_by l v)) (append-nil air)
tuned_own air v (Some p) =
    ap (λ (l : List Tuning). reverse l)
    (tuned_more air v v p ∙ ap (λ (l : List Tuning). tuned_by air v ++ l) (cond-true (v == v) (past_tuning v p ∷ []) [] (eq-eqb v v refl)))
    ∙ reverse-append (tuned_by air v) (past_tuning v p ∷ [])

pub tuned_other : (air : List Entry) (u v : ℕ) (o : Option Past) → u ≢ v → tuned_by (air ++ entries_of v o) u ≡ tuned_by air u
tuned_other air u v None other = ap (λ (l : List Entry). tuned_by l u) (append-nil air)
tuned_other air u v (Some p) other =
    tuned_more air u v p
    ∙ ap (λ (l : List Tuning). tuned_by air u ++ l) (cond-false (v == u) (past_tuning v p ∷ []) [] (ne_eqb v u (λ same. other (sym same))))
    ∙ append-nil (tuned_by air u)

pub sent_same : (air : List Entry) (u v : ℕ) (o : Option Past) → sent_by (air ++ entries_of v o) u ≡ sent_by air u
sent_same air u v o = ap (λ (l : List Sending). filter (λ (x : Sending). x.node == u) l) (sendings_tuned air v o)

pub entries_own : (v : ℕ) (o : Option Past) (e : Entry) → Contains (entries_of v o) e → node_of_entry e ≡ v
entries_own v None e there = absurd (not_in_none e there)
entries_own v (Some p) e there = elim (contains_cases _ [] e there) [ inl is ↦ ap node_of_entry (sym is) | inr none ↦ absurd (not_in_none e none) ]

-- the deliveries with those of a node more
abbrev pub delivered_by : List Delivery → ℕ → List Delivery
delivered_by ds v = filter (λ d. d.node == v) ds

all_own : (u : ℕ) (es : List Delivery) → All (λ d. d.node ≡ u) es → delivered_by es u ≡ es
all_own u [] own = refl
all_own u (d ∷ es) own =
    cond-true (d.node == u) (d ∷ delivered_by es u) (delivered_by es u) (eq-eqb d.node u (All-head (λ (x : Delivery). x.node ≡ u) d es own))
    ∙ ap (λ (l : List Delivery). d ∷ l) (all_own u es (All-tail (λ (x : Delivery). x.node ≡ u) d es own))

none_other : (u v : ℕ) (es : List Delivery) → All (λ d. d.node ≡ v) es → u ≢ v → delivered_by es u ≡ []
none_other u v [] own other = refl
none_other u v (d ∷ es) own other =
    cond-false (d.node == u) (d ∷ delivered_by es u) (delivered_by es u)
    (ne_eqb d.node u (λ same. other (sym same ∙ All-head (λ (x : Delivery). x.node ≡ v) d es own)))
    ∙ none_other u v es (All-tail (λ (x : Delivery). x.node ≡ v) d es own) other

pub delivered_own : (ds : List Delivery) (u : ℕ) (es : List Delivery) → All (λ d. d.node ≡ u) es → delivered_by (ds ++ es) u ≡ delivered_by ds u ++ es
delivered_own ds u es own = filter-append (λ (d : Delivery). d.node == u) ds es ∙ ap (λ (l : List Delivery). delivered_by ds u ++ l) (all_own u es own)

pub delivered_other : (ds : List Delivery) (u v : ℕ) (es : List Delivery) → All (λ d. d.node ≡ v) es → u ≢ v → delivered_by (ds ++ es) u ≡ delivered_by ds u
delivered_other ds u v es own other =
    filter-append (λ (d : Delivery). d.node == u) ds es
    ∙ ap (λ (l : List Delivery). delivered_by ds u ++ l) (none_other u v es own other)
    ∙ append-nil (delivered_by ds u)

-- what the medium keeps of a device, which sends what runs of its transmissions in the log
pub record IsStationOf (m : MediumState) (air : List Entry) (d : DeviceState) (station : Station) : Type 0 where
  pub there : station_of m d.setup.id ≡ Some station
  pub sending : station.sending ≡ running d.busy_until (sent_by air d.setup.id)

-- what the lists have more in a step is of node v: what it has made by that, and these transmissions
pub record ListsGoOn (v : ℕ) (making : Made → Made) (begun : List Sending) (old new : FieldState) : Type 0 where
  pub own : (made : Made) → IsLogged old v made → IsLogged new v (making made)
  pub others : (u : ℕ) (made : Made) → u ≢ v → IsLogged old u made → IsLogged new u made
  pub hearings : hearings_of new.air ≡ hearings_of old.air
  pub sendings : sendings_of new.air ≡ sendings_of old.air ++ begun
  pub entries : (e : Entry) → Contains new.air e → Contains old.air e ⊎ (node_of_entry e ≡ v)
  pub deliverers : (d : Delivery) → Contains new.deliveries d → Contains old.deliveries d ⊎ (d.node ≡ v)

abbrev pub listed : ℕ → Option Past → List Delivery → Made → Made
listed v over ds made = record made { tuned = one_more v over made.tuned; deliveries = made.deliveries ++ ds }

-- a tuning of it, if there is one, and these deliveries
pub lists_listed : (v : ℕ) (over : Option Past) (ds : List Delivery) (old new : FieldState) → All (λ d. d.node ≡ v) ds
    → new.air ≡ old.air ++ entries_of v over → new.deliveries ≡ old.deliveries ++ ds → ListsGoOn v (listed v over ds) [] old new
lists_listed v over ds old new own air deliveries = record {
  own = λ made logged. record {
    sent = logged.sent ∙ sym (ap (λ (l : List Entry). sent_by l v) air ∙ sent_same old.air v v over);
    tuned = ap (λ (l : List Tuning). one_more v over l) logged.tuned
        ∙ sym (ap (λ (l : List Entry). reverse (tuned_by l v)) air ∙ tuned_own old.air v over);
    deliveries = ap (λ (l : List Delivery). l ++ ds) logged.deliveries
        ∙ sym (ap (λ (l : List Delivery). delivered_by l v) deliveries ∙ delivered_own old.deliveries v ds own);
  };
  others = λ u made other logged. record {
    sent = logged.sent ∙ sym (ap (λ (l : List Entry). sent_by l u) air ∙ sent_same old.air u v over);
    tuned = logged.tuned ∙ ap (λ (l : List Tuning). reverse l)
        (sym (ap (λ (l : List Entry). tuned_by l u) air ∙ tuned_other old.air u v over other));
    deliveries = logged.deliveries
        ∙ sym (ap (λ (l : List Delivery). delivered_by l u) deliveries ∙ delivered_other old.deliveries u v ds own other);
  };
  hearings = ap hearings_of air ∙ hearings_tuned old.air v over;
  sendings = ap sendings_of air ∙ sendings_tuned old.air v over ∙ sym (append-nil (sendings_of old.air));
  entries = λ e there. elim (Contains-append_cases old.air (entries_of v over) e (subst (λ (l : List Entry). Contains l e) air there)) [
    | inl before ↦ inl before
    | inr more ↦ inr (entries_own v over e more)
  ];
  deliverers = λ d there. elim (Contains-append_cases old.deliveries ds d (subst (λ (l : List Delivery). Contains l d) deliveries there)) [
    | inl before ↦ inl before
    | inr more ↦ inr (All-contains (λ (x : Delivery). x.node ≡ v) ds d own more)
  ];
}

-- nothing
pub lists_stay : (v : ℕ) (w : FieldState) (m : MediumState) (ds : List DeviceState)
    → ListsGoOn v (λ made. made) [] w (record w { medium = m; devices = ds })
lists_stay v w m ds = record {
  own = λ made logged. record { sent = logged.sent; tuned = logged.tuned; deliveries = logged.deliveries };
  others = λ u made other logged. record { sent = logged.sent; tuned = logged.tuned; deliveries = logged.deliveries };
  hearings = refl;
  sendings = sym (append-nil (sendings_of w.air));
  entries = λ e there. inl there;
  deliverers = λ d there. inl there;
}

-- a transmission of it
pub lists_sent : (v : ℕ) (x : Sending) (w : FieldState) (m : MediumState) (ds : List DeviceState) → x.node ≡ v
    → ListsGoOn v (λ made. record made { sent = made.sent ++ x ∷ [] }) (x ∷ []) w (record w { medium = m; devices = ds; air = w.air ++ Sent x ∷ [] })
lists_sent v x w m ds own = record {
  own = λ made logged. record {
    sent = ap (λ (l : List Sending). l ++ x ∷ []) logged.sent ∙ sym (sent_own w.air x v own);
    tuned = logged.tuned ∙ ap (λ (l : List Tuning). reverse l) (sym (tuned_beside_sent w.air x v));
    deliveries = logged.deliveries;
  };
  others = λ u made other logged. record {
    sent = logged.sent ∙ sym (sent_other w.air x u (λ same. other (sym same ∙ own)));
    tuned = logged.tuned ∙ ap (λ (l : List Tuning). reverse l) (sym (tuned_beside_sent w.air x u));
    deliveries = logged.deliveries;
  };
  hearings = hearings_sent w.air x;
  sendings = sendings_sent w.air x;
  entries = λ e there. elim (Contains-push_cases w.air (Sent x) e there) [ inl before ↦ inl before | inr is ↦ inr (ap node_of_entry (sym is) ∙ own) ];
  deliverers = λ d there. inl there;
}

-- in a step at t the device at place p has become another of the same node: the lists, the medium and the queue go on with it,
-- these transmissions begin, and these puts are lost
pub record IsStepAt (t p : ℕ) (state after : DeviceState) (from to : Station) (making : Made → Made) (begun : List Sending) (lost : List DropLine)
    (old : FieldState) (old_due : List Due) (new : FieldState) (new_due : List Due) : Type 0 where
  pub here : slice_get old.devices p ≡ Some state
  pub was : station_of old.medium state.setup.id ≡ Some from
  pub setup : after.setup ≡ state.setup
  pub devices : new.devices ≡ set old.devices p after
  pub lists : ListsGoOn state.setup.id making begun old new
  pub drops : new.drops ≡ old.drops ++ lost
  pub medium : MediumGoesOn t old.medium new.medium begun
  pub station : IsStationOf new.medium new.air after to
  pub stations : (u : ℕ) → u ≢ state.setup.id → station_of new.medium u ≡ station_of old.medium u
  pub due : slice_get new_due p ≡ Some (due_of_device after)
  pub dues : (q : ℕ) → q ≢ p → slice_get new_due q ≡ slice_get old_due q
  pub places : length new_due ≡ length old_due

-- at tick t the device, of this station and with this in the lists, is this one of a trail
pub record ShowsWith (s : Setup) (t : ℕ) (state : DeviceState) (station : Station) (made : Made) (d : Device) : Type 0 where
  pub windows : List WindowLog
  pub shows : DeviceShows s t state (tunings_with s.id station.tuning made.tuned) (record made { windows = windows }) d
  pub ended : EndedBefore t made.tuned

module _ {t p : ℕ} {state after : DeviceState} {from to : Station} {making : Made → Made} {begun : List Sending} {lost : List DropLine}
    {old new : FieldState} {old_due new_due : List Due}
    (is : IsStepAt t p state after from to making begun lost old old_due new new_due) where
  stands_in : Contains (ids_of old) state.setup.id
  stands_in = contains_at (ids_of old) p state.setup.id (slice_get-map id_of old.devices p ∙ ap (λ (o : Option DeviceState). option_map id_of o) is.here)

  step_same : AreSame old old_due new new_due
  step_same = record {
    setups = ap (λ (l : List DeviceState). map setup_of_device l) is.devices ∙ map_stays setup_of_device old.devices p state after is.here is.setup;
    places = is.places;
    entries = λ e there. elim (is.lists.entries e there) [
      | inl before ↦ inl before
      | inr own ↦ inr (subst (λ (v : ℕ). Contains (ids_of old) v) (sym own) stands_in)
    ];
    deliverers = λ d there. elim (is.lists.deliverers d there) [
      | inl before ↦ inl before
      | inr own ↦ inr (subst (λ (v : ℕ). Contains (ids_of old) v) (sym own) stands_in)
    ];
  }

  other_id : IsField old → (q : ℕ) → q ≢ p → (d : DeviceState) → slice_get old.devices q ≡ Some d → d.setup.id ≢ state.setup.id
  other_id field q other d there =
      apart_at (ids_of old) (subst (λ (l : List ℕ). AllPairs (λ a b. a < b) l)
      (sym field.nodes) field.medium.nodes.ascending) q p d.setup.id state.setup.id other
      (slice_get-map id_of old.devices q ∙ ap (λ (o : Option DeviceState). option_map id_of o) there)
      (slice_get-map id_of old.devices p ∙ ap (λ (o : Option DeviceState). option_map id_of o) is.here)

  shown_other : IsField old → (q : ℕ) → q ≢ p → (s : Setup) (d : Device) → FieldShows s t old old_due q d → FieldShows s t new new_due q d
  shown_other field q other s d shows =
      let apart : shows.state.setup.id ≢ state.setup.id = other_id field q other shows.state shows.there in
      let known = shows.known in
      let logged : IsLogged new s.id shows.made =
      is.lists.others s.id shows.made (λ same. apart (ap (λ (x : Setup). x.id) shows.shows.setup ∙ same)) shows.logged in
      let sent : sent_by old.air shows.state.setup.id ≡ sent_by new.air shows.state.setup.id =
      ap (λ (x : Setup). sent_by old.air x.id) shows.shows.setup ∙ sym shows.logged.sent ∙ logged.sent
      ∙ ap (λ (x : Setup). sent_by new.air x.id) (sym shows.shows.setup) in
      record {
        state = shows.state;
        there = ap (λ (l : List DeviceState). slice_get l q) is.devices ∙ set_elsewhere old.devices p q after other ∙ shows.there;
        station = shows.station;
        made = shows.made;
        shows = shows.shows;
        ended = shows.ended;
        logged = logged;
        known = record {
          there = is.stations shows.state.setup.id apart ∙ known.there;
          sending = known.sending ∙ ap (running shows.state.busy_until) sent;
          set = is.dues q other ∙ known.set;
        };
      }

  module _ (change : Setup → Device → Device) (goes : (s : Setup) (made : Made) (d : Device)
      → DeviceShows s t state (tunings_with s.id from.tuning made.tuned) made d → EndedBefore t made.tuned
      → ShowsWith s t after to (making made) (change s d)) where
    shown_own : (s : Setup) (d : Device) → FieldShows s t old old_due p d → FieldShows s t new new_due p (change s d)
    shown_own s d shows =
        let at = shown_as s t old old_due p d state is.here shows in
        let station : at.station ≡ from = same_Some at.station from (sym at.known.there ∙ is.was) in
        let next = goes s at.made d
        (subst (λ (x : Station). DeviceShows s t state (tunings_with s.id x.tuning at.made.tuned) at.made d) station at.shows) at.ended in
        let own : s.id ≡ state.setup.id = ap (λ (x : Setup). x.id) (sym at.shows.setup) in
        let logged = subst (λ (v : ℕ). IsLogged new v (making at.made)) (sym own)
        (is.lists.own at.made (subst (λ (v : ℕ). IsLogged old v at.made) own at.logged)) in
        record {
          state = after;
          there = ap (λ (l : List DeviceState). slice_get l p) is.devices ∙ at_set old.devices p after (slice_get_within old.devices p state is.here);
          station = to;
          made = record (making at.made) { windows = next.windows };
          shows = next.shows;
          ended = next.ended;
          logged = record { sent = logged.sent; tuned = logged.tuned; deliveries = logged.deliveries };
          known = record { there = is.station.there; sending = is.station.sending; set = is.due };
        }

    -- so the field acts by what the device does
    pub acts_at : IsField old → Acts t p change begun lost old old_due new new_due
    acts_at field = record {
      own = shown_own;
      others = shown_other field;
      hearings = is.lists.hearings;
      sendings = is.lists.sendings;
      drops = is.drops;
      air = is.medium;
      same = step_same;
    }

-- after a step the field is one, if its medium is
pub field_stays : (p : ℕ) (old new : FieldState) (state after : DeviceState) → IsField old → slice_get old.devices p ≡ Some state
    → after.setup ≡ state.setup → new.devices ≡ set old.devices p after
    → IsMedium new.medium → nodes_of new.medium ≡ nodes_of old.medium → new.medium.numbers ≡ old.medium.numbers → IsField new
field_stays p old new state after field here setup devices medium nodes numbers =
    let HasNumbers : DeviceState → Type 0 = λ d. d.setup.profile ≡ old.medium.numbers in
    let own : state.setup.profile ≡ old.medium.numbers =
    subst HasNumbers (get_or_from_slice_get old.devices p state state here) (field.numbers p state (slice_get_within old.devices p state here)) in
    let all : All (λ d. d.setup.profile ≡ old.medium.numbers) (set old.devices p after) =
    All-set (λ d. d.setup.profile ≡ old.medium.numbers) old.devices p after (ap (λ (s : Setup). s.profile) setup ∙ own) field.numbers in
    record {
      medium = medium;
      nodes = same_ids new old (ap (λ (l : List DeviceState). map setup_of_device l) devices ∙ map_stays setup_of_device old.devices p state after here setup)
          ∙ field.nodes ∙ sym nodes;
      numbers = subst (λ (l : List DeviceState). All (λ d. d.setup.profile ≡ new.medium.numbers) l) (sym devices)
          (subst (λ (n : Numbers). All (λ d. d.setup.profile ≡ n) (set old.devices p after)) (sym numbers) all);
    }
