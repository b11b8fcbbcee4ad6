-- The devices that a field shows at its places.
use Rattle.std.proofs.Common.{option_map, ◌≡◌, ℕ, zero, suc, ◌<◌, ◌≤◌, List, [], ◌∷◌, map, reverse, length, get_or, slice_get, Some, Option, refl, sym}
use Rattle.std.proofs.Common.{◌∙◌, ap, subst, arith, Contains}
use Rattle.std.proofs.lemmas.Option.{same_Some, slice_get_within, slice_get-get_or, get_or_from_slice_get}
use Rattle.std.proofs.lemmas.List.{length-map}
use Rattle.radio_model.specs.declared.sending.Sending.{Sending}
use Rattle.radio_model.specs.OnAir.{Tuning}
use Rattle.radio_model.specs.Stations.{sending_of_station, station_of, tuning_at}
use Rattle.radio_model.specs.declared.station.Station.{Station}
use Rattle.scenario_text.specs.ScenarioParts.{ScenarioParts}
use Rattle.scenario_text.specs.declared.lines.NodeLine.{NodeLine}
use Rattle.event_calendar.specs.Orders.{Due, at, nothing_due}
use Rattle.event_calendar.specs.declared.class.Class.TheVariants.{SendingEnd}
use Rattle.bus_rules.specs.Cores.{Setup}
use Rattle.air_log.specs.Devices.{Device, Listening}
use Rattle.scenario_text.specs.Setups.{setup_of}
use Rattle.air_log.specs.Lawful.{sent_by, tuned_by, heard_by}
use Rattle.air_log.specs.DeviceStates.{DeviceState, running, sending_end}
use Rattle.air_log.specs.Tunings.{Tunings, tunings_with}
use Rattle.world_engine.specs.Fields.{FieldState, FieldShows, ids_of, setup_of_device, id_of, due_of_device}
use Rattle.world_engine.specs.Moments.{TickMoment}
use Rattle.world_engine.specs.Running.{HasPlaces, IsOnTrail, setup_by}
use Rattle.air_log.specs.TunedTimes.{WasTuned}
use Rattle.air_log.proofs.TunedBefore.{TunedAt, HasTunedBy, by_later}
use Rattle.world_engine.proofs.TunedMoments.{moment_by}
use Rattle.world_engine.proofs.ShownDevices.{shows_later}
use Rattle.world_engine.proofs.ShownPlaces.{runs_logged, station_sends, due_stands}

pub mapped : {X Y : Type 0} (f : X → Y) (xs : List X) (p : ℕ) (x : X) → slice_get xs p ≡ Some x → slice_get (map f xs) p ≡ Some (f x)
mapped f [] p x is = cc
mapped f (y ∷ xs) zero x is = ap (λ (z : _). Some (f z)) (same_Some y x is)
mapped f (y ∷ xs) (suc p) x is = mapped f xs p x is

-- the tunings that a field has of a node
abbrev tunings_at : Setup → FieldState → Tunings
tunings_at q w = tunings_with q.id (tuning_at (station_of w.medium q.id)) (reverse (tuned_by w.air q.id))

-- a device that is shown is one of the field's
module _ (q : Setup) (t : ℕ) (w : FieldState) (due : List Due) (p : ℕ) (d : Device) (is : FieldShows q t w due p d) where
  pub shown_within : p < length w.devices
  shown_within = slice_get_within w.devices p is.state is.there

  pub shown_id : slice_get (ids_of w) p ≡ Some q.id
  shown_id = mapped id_of w.devices p is.state is.there ∙ ap (λ (s : Setup). Some s.id) is.shows.setup

  -- what it sends runs on the air
  pub shown_sending : sending_of_station (station_of w.medium q.id) ≡ d.sending
  shown_sending =
      ap (λ (s : Setup). sending_of_station (station_of w.medium s.id)) (sym is.shows.setup)
      ∙ ap sending_of_station is.known.there ∙ station_sends q t w due p d is

  -- and its end is in the queue
  pub shown_end : (y : Sending) → d.sending ≡ Some y → at due p SendingEnd ≡ Some y.end
  shown_end y sends =
      ap (λ (x : Due). x.sending_end) (get_or_from_slice_get due p (due_of_device is.state) nothing_due is.known.set)
      ∙ ap (λ (x : Due). x.sending_end) (due_stands q t w due p d is) ∙ ap (option_map sending_end) sends

  -- its tunings are with the medium and in the log
  shown_tuned : record { listening = d.listening; ended = d.made.tuned } ≡ tunings_at q w
  shown_tuned =
      ap (λ (x : Device). let tunings : Tunings = record { listening = x.listening; ended = x.made.tuned } in tunings) (sym is.shows.is)
      ∙ ap (tunings_with q.id is.station.tuning) is.logged.tuned
      ∙ ap (λ (o : Option Station). tunings_with q.id (tuning_at o) (reverse (tuned_by w.air q.id)))
      (sym (ap (λ (s : Setup). station_of w.medium s.id) (sym is.shows.setup) ∙ is.known.there))

-- two that are shown at one place are the same, but for what the log has not
pub record AreAlike (q r : Setup) (d e : Device) : Type 0 where
  pub setup : q ≡ r
  pub tuned : d.made.tuned ≡ e.made.tuned
  pub listening : d.listening ≡ e.listening
  pub sending : d.sending ≡ e.sending

pub alike : (q r : Setup) (t u : ℕ) (w : FieldState) (due : List Due) (p : ℕ) (d e : Device) → FieldShows q t w due p d → FieldShows r u w due p e
    → AreAlike q r d e
alike q r t u w due p d e a b =
    let state : a.state ≡ b.state = same_Some a.state b.state (sym a.there ∙ b.there) in
    let setup : q ≡ r = sym a.shows.setup ∙ ap (λ (s : DeviceState). s.setup) state ∙ b.shows.setup in
    let tunings : ◌≡◌ {A = Tunings} (record { listening = d.listening; ended = d.made.tuned }) (record { listening = e.listening; ended = e.made.tuned }) =
    shown_tuned q t w due p d a ∙ ap (λ (s : Setup). tunings_at s w) setup ∙ sym (shown_tuned r u w due p e b) in
    record {
      setup = setup;
      tuned = ap (λ (x : Tunings). x.ended) tunings;
      listening = ap (λ (x : Tunings). x.listening) tunings;
      sending = sym (runs_logged q t w due p d a) ∙ ap (λ (s : DeviceState). running s.busy_until (sent_by w.air s.setup.id)) state
          ∙ runs_logged r u w due p e b;
    }

pub tuned_alike : (q r : Setup) (d e : Device) → AreAlike q r d e → (c k : ℕ) → WasTuned d c k → WasTuned e c k
tuned_alike q r d e same c k is =
    subst (λ (l : Option Listening). TunedAt e.made.tuned l c k) same.listening (subst (λ (es : List Tuning). TunedAt es d.listening c k) same.tuned is)

pub alike_back : (q r : Setup) (d e : Device) → AreAlike q r d e → AreAlike r q e d
alike_back q r d e same = record { setup = sym same.setup; tuned = sym same.tuned; listening = sym same.listening; sending = sym same.sending }

-- at each place a device is shown that has been tuned by the tick
pub record IsTunedAt (t : ℕ) (w : FieldState) (due : List Due) (p : ℕ) : Type 0 where
  pub setup : Setup
  pub device : Device
  pub shows : FieldShows setup t w due p device
  pub by : HasTunedBy t device

abbrev pub AreTuned : ℕ → FieldState → List Due → Type 0
AreTuned t w due = (p : ℕ) → p < length w.devices → IsTunedAt t w due p

-- so on their trails
pub trails_tuned : (s : ScenarioParts) (clocks : ℕ → ℕ → ℕ) (t : ℕ) (m : TickMoment) (w : FieldState) (due : List Due) → HasPlaces s w due
    → ((p : ℕ) (n : NodeLine) → slice_get s.nodes p ≡ Some n → IsOnTrail s clocks t m w due p n.node) → AreTuned t w due
trails_tuned s clocks t m w due places trails p within = by_line s.nodes refl below
  where
    below : p < length s.nodes
    below = omega (arith, within, length-map w.devices setup_of_device, length-map s.nodes (setup_by s), ap length places.setups)

    at_line : (n : NodeLine) → slice_get s.nodes p ≡ Some n → IsTunedAt t w due p
    at_line n is =
        let on = trails p n is in
        record {
          setup = setup_of s n.node;
          device = on.device;
          shows = on.shows;
          by = moment_by s n.node (clocks n.node) (heard_by w.air n.node) t m on.device on.at;
        }

    by_line : (ns : List NodeLine) → ns ≡ s.nodes → p < length ns → IsTunedAt t w due p
    by_line [] is less = absurd (omega (arith, less))
    by_line (n ∷ ns) is less = at_line (get_or (n ∷ ns) p n) (ap (λ (l : List NodeLine). slice_get l p) (sym is) ∙ slice_get-get_or (n ∷ ns) p n less)

-- the place of an id
pub record HasPlace (w : FieldState) (v : ℕ) : Type 0 where
  pub place : ℕ
  pub within : place < length w.devices
  pub id : slice_get (ids_of w) place ≡ Some v

pub place_in : (w : FieldState) (v : ℕ) → Contains (ids_of w) v → HasPlace w v
place_in w v (k, below, at) =
    record { place = k; within = omega (arith, below, length-map w.devices id_of); id = slice_get-get_or (ids_of w) k v below ∙ ap (λ (n : ℕ). Some n) at }

pub id_there : (w : FieldState) (p v : ℕ) → slice_get (ids_of w) p ≡ Some v → Contains (ids_of w) v
id_there w p v is = (p, slice_get_within (ids_of w) p v is, get_or_from_slice_get (ids_of w) p v v is)

-- they stay so in time
pub tuned_later : (t u : ℕ) (w : FieldState) (due : List Due) → t ≤ u → AreTuned t w due → AreTuned u w due
tuned_later t u w due order all p within =
    let at = all p within in
    record {
      setup = at.setup;
      device = at.device;
      shows = shows_later at.setup t u w due p at.device order at.shows;
      by = by_later t u at.device.made.tuned at.device.listening order at.by;
    }
