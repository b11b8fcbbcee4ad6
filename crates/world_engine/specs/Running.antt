-- What holds of a run at each moment.
use Rattle.std.specs.Prelude.{◌≡◌, ◌≢◌, ◌↔◌, ℕ, ◌<◌, ◌≤◌, List, true, false, map, take, filter_map, length, slice_get, AllPairs, Contains, Some}
use Rattle.std.specs.List.{enumerate_from}
use Rattle.scenario_text.specs.ScenarioParts.{ScenarioParts}
use Rattle.scenario_text.specs.ScenarioFacts.{turned}
use Rattle.scenario_text.specs.declared.lines.NodeLine.{NodeLine}
use Rattle.scenario_text.specs.declared.script.ScriptLine.{ScriptLine}
use Rattle.radio_model.specs.declared.sending.Sending.{Sending}
use Rattle.radio_model.specs.OnAir.{Hearing}
use Rattle.radio_model.specs.Hearing.{Scene, IsTuned, HearsInScene}
use Rattle.radio_model.specs.Holding.{Holds, as_it_stands}
use Rattle.radio_model.specs.Stations.{MediumState, IsTime, sending_of_station, station_of}
use Rattle.event_calendar.specs.Orders.{Due}
use Rattle.bus_rules.specs.declared.delivery.Delivery.{Delivery}
use Rattle.bus_rules.specs.Cores.{Setup}
use Rattle.air_log.specs.declared.entry.Entry.{Entry}
use Rattle.air_log.specs.Entries.{sendings_of, hearings_of, node_of_entry, HasHeardEntry}
use Rattle.air_log.specs.Devices.{Device, seen_power}
use Rattle.air_log.specs.TunedTimes.{WasTuned}
use Rattle.scenario_text.specs.Setups.{setup_of}
use Rattle.air_log.specs.Trails.{frame_start}
use Rattle.air_log.specs.Lawful.{reception_comes_before, AreInTurn, heard_by}
use Rattle.air_log.specs.Drops.{device_before_line, drop_of_line}
use Rattle.world_engine.specs.Fields.{FieldState, IsField, FieldShows, setups_of, ids_of}
use Rattle.world_engine.specs.Moments.{TickMoment, IsAtMoment, over_by}

-- the devices are those of the scenario's nodes, in their order
abbrev pub setup_by : ScenarioParts → NodeLine → Setup
setup_by s n = setup_of s n.node

pub record HasPlaces (s : ScenarioParts) (w : FieldState) (due : List Due) : Type 0 where
  pub setups : setups_of w ≡ map (setup_by s) s.nodes
  pub field : IsField w
  pub places : length due ≡ length s.nodes

-- the device at the place of v has come to this moment of its trail over what is in the log
pub record IsOnTrail (s : ScenarioParts) (clocks : ℕ → ℕ → ℕ) (t : ℕ) (m : TickMoment) (w : FieldState) (due : List Due) (p v : ℕ) : Type 0 where
  pub device : Device
  pub shows : FieldShows (setup_of s v) t w due p device
  pub at : IsAtMoment s (clocks v) (heard_by w.air v) v t m device

-- the transmission is on the air
abbrev pub Runs : MediumState → Sending → Type 0
Runs m x = sending_of_station (station_of m x.node) ≡ Some x

-- the scene that the medium holds is that of the log and the devices
pub record HoldsScene (s : ScenarioParts) (t : ℕ) (w : FieldState) (due : List Due) (a : Scene) : Type 0 where
  pub held : Holds w.medium a
  pub lines : a.lines ≡ s.trace
  pub numbers : w.medium.numbers ≡ s.profile
  pub time : IsTime w.medium t
  pub sendings : (x : Sending) → Contains a.sendings x ↔ Contains (sendings_of w.air) x
  pub begun : (x : Sending) → Contains (sendings_of w.air) x → (x.start < x.end) × (x.start ≤ t)
  pub tuned : (q : Setup) (p : ℕ) (d : Device) → FieldShows q t w due p d → (r k : ℕ) → k < t → IsTuned (as_it_stands w.medium t a) q.id r k ↔ WasTuned d r k
  -- what the lists have is of these devices
  pub known : (e : Entry) → Contains w.air e → Contains (ids_of w) (node_of_entry e)
  pub deliverers : (d : Delivery) → Contains w.deliveries d → Contains (ids_of w) d.node

-- of the transmissions that are over the log has who received them, by the rule of reception
pub record HasHearings (over t : ℕ) (w : FieldState) (a : Scene) : Type 0 where
  pub heard : (v : ℕ) (x : Sending) → HasHeardEntry w.air v x
      ↔ (Contains (sendings_of w.air) x × (Runs w.medium x → ⊥) × Contains (ids_of w) v × HearsInScene (as_it_stands w.medium t a) v x)
  pub ended : (x : Sending) → Contains (sendings_of w.air) x → (Runs w.medium x → ⊥) → x.end < over
  pub once : AllPairs (λ g h. g ≢ h) (hearings_of w.air)
  pub in_turn : AreInTurn (hearings_of w.air)
  -- what still runs ends after what was received, or at the same tick and is of a later sender
  pub next : (g : Hearing) (y : Sending) → Contains (hearings_of w.air) g → Runs w.medium y
      → reception_comes_before g (record { node = y.node; sending = y }) ≡ true

pub record IsOnAir (s : ScenarioParts) (over t : ℕ) (w : FieldState) (due : List Due) : Type 0 where
  pub scene : Scene
  pub holds : HoldsScene s t w due scene
  pub has : HasHearings over t w scene

-- these lines of the script have been given
pub record HasTakenLines (s : ScenarioParts) (clocks : ℕ → ℕ → ℕ) (told : List ScriptLine) (t : ℕ) (w : FieldState) (due : List Due) : Type 0 where
  -- the loss of each, as those above it leave its node
  pub drops : w.drops
      ≡ filter_map (λ (x : ℕ × ScriptLine). drop_of_line x.1 (device_before_line s clocks w.air (take x.0 told) x.1).power) (enumerate_from 0 told)
  pub power : (q : Setup) (p : ℕ) (d : Device) → FieldShows q t w due p d → seen_power d.power ≡ turned q.id (false, 0) told
  pub lines : (l : ScriptLine) → Contains told l → frame_start s l.frame ≤ t

pub record IsRunning (s : ScenarioParts) (clocks : ℕ → ℕ → ℕ) (told : List ScriptLine) (t : ℕ) (m : TickMoment) (w : FieldState) (due : List Due) : Type 0 where
  pub places : HasPlaces s w due
  pub trails : (p : ℕ) (n : NodeLine) → slice_get s.nodes p ≡ Some n → IsOnTrail s clocks t m w due p n.node
  pub air : IsOnAir s (over_by t m) t w due
  pub script : HasTakenLines s clocks told t w due
