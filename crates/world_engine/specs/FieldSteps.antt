-- What a step of a run does: at one device, on the air, and in the lists.
use Rattle.std.specs.Prelude.{◌≡◌, ◌≢◌, ◌⊎◌, ◌↔◌, ℕ, ◌<◌, List, [], ◌++◌, map, length, slice_get, slice_index_or, All, AllPairs, Contains}
use Rattle.std.specs.Prelude.{Some, None, option_to_list, false}
use Rattle.std.specs.declared.option.Option.{Option}
use Rattle.lwb_base.specs.declared.event.Event.TheVariants.{Heard, Sent}
use Rattle.link_trace.specs.Passes.{Lines}
use Rattle.radio_model.specs.declared.sending.Sending.{Sending}
use Rattle.radio_model.specs.OnAir.{Hearing}
use Rattle.radio_model.specs.Hearing.{Scene, HearsInScene}
use Rattle.radio_model.specs.Holding.{Holds, Agree, as_it_stands, nothing_yet}
use Rattle.radio_model.specs.declared.tuning.RadioTuning.{RadioTuning}
use Rattle.radio_model.specs.Stations.{MediumState, IsMedium, IsTime, nodes_of, station_of, first_state, tuning_at, tuning_after, over_after}
use Rattle.event_calendar.specs.Orders.{Due}
use Rattle.bus_rules.specs.declared.delivery.Delivery.{Delivery}
use Rattle.bus_rules.specs.declared.delivery.DropLine.{DropLine}
use Rattle.bus_rules.specs.Cores.{Setup}
use Rattle.air_log.specs.declared.entry.Entry.{Entry}
use Rattle.air_log.specs.Entries.{sendings_of, hearings_of, node_of_entry}
use Rattle.air_log.specs.Devices.{Device, PowerOff, event, silenced}
use Rattle.air_log.specs.ScriptedDevices.{device_after_act}
use Rattle.air_log.specs.Drops.{drop_by}
use Rattle.scenario_text.specs.Setups.{setup_of}
use Rattle.scenario_text.specs.ScenarioParts.{ScenarioParts}
use Rattle.scenario_text.specs.declared.lines.NodeLine.{NodeLine}
use Rattle.bus_rules.specs.declared.act.Act.{Act}
use Rattle.scenario_text.specs.declared.script.ScriptLine.{ScriptLine}
use Rattle.scenario_text.specs.FloodParts.{node_id}
use Rattle.node_core.specs.Nodes.{rebooted}
use Rattle.air_log.specs.DeviceStates.{DeviceState, IsCoreAt}
use Rattle.air_log.specs.WindowSums.{WindowSum}
use Rattle.world_engine.specs.Fields.{FieldState, FieldShows, IsLogged, entries_of, ids_of, setups_of, sums_of, power_of}

-- a scene that the medium holds after a step at t: these transmissions have begun, and nothing has changed before t
pub record IsSceneAfter (t : ℕ) (old new : MediumState) (begun : List Sending) (a b : Scene) : Type 0 where
  pub held : Holds new b
  pub lines : b.lines ≡ a.lines
  pub sendings : b.sendings ≡ a.sendings ++ begun
  pub before : Agree t (as_it_stands old t a) (as_it_stands new t b)

-- what the medium is given at t
pub record MediumGoesOn (t : ℕ) (old new : MediumState) (begun : List Sending) : Type 0 where
  pub scene : (a : Scene) → Holds old a → (b : Scene) × IsSceneAfter t old new begun a b
  pub time : IsTime new t
  pub nodes : nodes_of new ≡ nodes_of old
  pub numbers : new.numbers ≡ old.numbers
  pub still : IsMedium old → IsMedium new

-- the devices stay at their places
pub record AreSame (old : FieldState) (old_due : List Due) (new : FieldState) (new_due : List Due) : Type 0 where
  pub setups : setups_of new ≡ setups_of old
  pub places : length new_due ≡ length old_due
  -- what the lists have more is of these devices
  pub entries : (e : Entry) → Contains new.air e → Contains old.air e ⊎ Contains (ids_of old) (node_of_entry e)
  pub deliverers : (d : Delivery) → Contains new.deliveries d → Contains old.deliveries d ⊎ Contains (ids_of old) d.node

-- at tick t the device at place p goes through this change, and nothing else happens but that these transmissions begin and
-- these puts are lost
pub record Acts (t p : ℕ) (change : Setup → Device → Device) (begun : List Sending) (lost : List DropLine) (old : FieldState) (old_due : List Due)
    (new : FieldState) (new_due : List Due) : Type 0 where
  pub own : (s : Setup) (d : Device) → FieldShows s t old old_due p d → FieldShows s t new new_due p (change s d)
  pub others : (q : ℕ) → q ≢ p → (s : Setup) (d : Device) → FieldShows s t old old_due q d → FieldShows s t new new_due q d
  pub hearings : hearings_of new.air ≡ hearings_of old.air
  pub sendings : sendings_of new.air ≡ sendings_of old.air ++ begun
  pub drops : new.drops ≡ old.drops ++ lost
  pub air : MediumGoesOn t old.medium new.medium begun
  pub same : AreSame old old_due new new_due

-- at tick t the device at place p is given this by a line of the script, and these puts of it are lost
abbrev pub TakesLine : (ℕ → ℕ) → ScriptLine → ℕ → ℕ → Act → FieldState → List Due → FieldState → List Due → Type 0
TakesLine clock line t p act old old_due new new_due =
    (lost : List DropLine) × Acts t p (λ s d. device_after_act clock s t d act d.power) [] lost old old_due new new_due
    × ((s : Setup) (d : Device) → FieldShows s t old old_due p d → lost ≡ option_to_list (drop_by line act d.power))

-- what the clock at a place reads; past them it is the true tick
abbrev pub reading_of : {C : Type 0} → (C → ℕ → ℕ) → Option C → ℕ → ℕ
reading_of R None t = t
reading_of R (Some c) t = R c t

abbrev pub readings_at : {C : Type 0} → (C → ℕ → ℕ) → List C → ℕ → ℕ → ℕ
readings_at R cs p = reading_of R (slice_get cs p)

-- the device at that place receives x
abbrev pub hearing_at : FieldState → Sending → ℕ → Hearing
hearing_at w x p = record { node = slice_index_or (ids_of w) p 0; sending = x }

-- the sender of x is notified of its end
abbrev pub told_of_end : (ℕ → ℕ) → ℕ → Sending → Setup → Device → Device
told_of_end clock t x s d = event clock s t Sent (Some x) (record d { sending = None })

-- a device is notified of what it has received
abbrev pub told_of_hearing : (ℕ → ℕ) → ℕ → Sending → Setup → Device → Device
told_of_hearing clock t x s d = event clock s t (Heard x.packet) None d

-- at tick t the transmission x of the device at place p ends: these devices, by ascending places, receive it by the rule of reception,
-- each is notified of it, and then the sender of the end
pub record EndsSending (lines : Lines) (clocks : ℕ → ℕ → ℕ) (t p : ℕ) (x : Sending) (hearers : List ℕ) (old : FieldState) (old_due : List Due)
    (new : FieldState) (new_due : List Due) : Type 0 where
  pub ascending : AllPairs (λ a b. a < b) hearers
  pub heard : (a : Scene) → Holds old.medium a → a.lines ≡ lines → (q : ℕ) (s : Setup) (d : Device) → FieldShows s t old old_due q d
      → Contains hearers q ↔ HearsInScene (as_it_stands old.medium t a) s.id x
  pub within : All (λ q. q < length old.devices) hearers
  pub sender : (Contains hearers p → ⊥) → (s : Setup) (d : Device) → FieldShows s t old old_due p d
      → FieldShows s t new new_due p (told_of_end (clocks p) t x s d)
  pub hearer : (q : ℕ) → Contains hearers q → q ≢ p → (s : Setup) (d : Device) → FieldShows s t old old_due q d
      → FieldShows s t new new_due q (told_of_hearing (clocks q) t x s d)
  pub others : (q : ℕ) → (Contains hearers q → ⊥) → q ≢ p → (s : Setup) (d : Device) → FieldShows s t old old_due q d → FieldShows s t new new_due q d
  pub hearings : hearings_of new.air ≡ hearings_of old.air ++ map (hearing_at old x) hearers
  pub sendings : sendings_of new.air ≡ sendings_of old.air
  pub drops : new.drops ≡ old.drops
  pub air : MediumGoesOn t old.medium new.medium []
  pub same : AreSame old old_due new new_due

-- whatever trail a device is of, if it sends x
abbrev pub DeviceSends : ℕ → FieldState → List Due → ℕ → Sending → Type 0
DeviceSends t w due p x = (s : Setup) (d : Device) → FieldShows s t w due p d → d.sending ≡ Some x

-- at tick t the tuning of the device at place p ends, and all its tunings are in the log
pub record GoesSilent (t p : ℕ) (old new : FieldState) : Type 0 where
  pub state : DeviceState
  pub there : slice_get old.devices p ≡ Some state
  pub core : IsCoreAt state.core state.power
  pub tuning : RadioTuning
  pub stands : tuning ≡ tuning_at (station_of old.medium state.setup.id)
  pub is : new ≡ record old {
    air = (old.air ++ entries_of state.setup.id (over_after None t tuning)) ++ entries_of state.setup.id (tuning_after None t tuning).last;
  }

-- at tick t all tunings end, and nothing else happens
pub record IsClosed (t : ℕ) (old : FieldState) (old_due : List Due) (new : FieldState) : Type 0 where
  pub own : (p : ℕ) (s : Setup) (d : Device) → FieldShows s t old old_due p d → IsLogged new s.id (silenced s.id t d).made
  pub hearings : hearings_of new.air ≡ hearings_of old.air
  pub sendings : sendings_of new.air ≡ sendings_of old.air
  pub deliveries : new.deliveries ≡ old.deliveries
  pub drops : new.drops ≡ old.drops
  pub sums : sums_of new ≡ sums_of old
  pub powers : map power_of new.devices ≡ map power_of old.devices
  pub cores : All (λ d. IsCoreAt d.core d.power) new.devices
  pub setups : setups_of new ≡ setups_of old
  pub entries : (e : Entry) → Contains new.air e → Contains old.air e ⊎ Contains (ids_of old) (node_of_entry e)

-- of no windows
abbrev pub nothing_counted : ScenarioParts → WindowSum
nothing_counted s = record { profile = s.profile; sends = s.sends; earlier = 0; last = 0; by_alarm = false; sent = 0 }

-- nothing has happened yet to the nodes of the scenario
abbrev pub first_device : ScenarioParts → NodeLine → DeviceState
first_device s n = record {
  setup = setup_of s n.node;
  core = rebooted 1;
  power = PowerOff 0;
  channel = None;
  alarm = None;
  ordered = None;
  busy_until = None;
  delivery = None;
  windows = nothing_counted s;
}

pub record IsFirstField (s : ScenarioParts) (w : FieldState) : Type 0 where
  pub medium : w.medium ≡ first_state s.profile (map node_id s.nodes)
  pub held : (lines : Lines) → Holds w.medium (nothing_yet s.profile lines)
  pub devices : w.devices ≡ map (first_device s) s.nodes
  pub air : w.air ≡ []
  pub deliveries : w.deliveries ≡ []
  pub drops : w.drops ≡ []
