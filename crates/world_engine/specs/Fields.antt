-- The devices of a run by place, the air that they share, and what is in the lists so far.
use Rattle.std.specs.Prelude.{◌≡◌, ℕ, List, [], ◌∷◌, map, filter, reverse, slice_get, All, ◌==◌, Some, None}
use Rattle.std.specs.declared.option.Option.{Option}
use Rattle.std.specs.Option.{option_map}
use Rattle.radio_model.specs.declared.station.Station.{Station}
use Rattle.radio_model.specs.declared.tuning.Past.{Past}
use Rattle.radio_model.specs.Stations.{MediumState, IsMedium, nodes_of, station_of}
use Rattle.event_calendar.specs.Orders.{Due}
use Rattle.bus_rules.specs.declared.delivery.Delivery.{Delivery}
use Rattle.bus_rules.specs.declared.delivery.DropLine.{DropLine}
use Rattle.bus_rules.specs.Cores.{Setup}
use Rattle.air_log.specs.declared.entry.Entry.{Entry}
use Rattle.air_log.specs.declared.entry.Entry.TheVariants.{Tuned}
use Rattle.air_log.specs.Devices.{Device, Power, Made}
use Rattle.air_log.specs.Lawful.{sent_by, tuned_by}
use Rattle.air_log.specs.DeviceChanges.{DeviceShows}
use Rattle.air_log.specs.DeviceStates.{DeviceState, tick_of_ordered, running}
use Rattle.air_log.specs.Tunings.{tunings_with, EndedBefore}
use Rattle.air_log.specs.WindowSums.{WindowSum}

-- deliveries and drops are in the order in which they were made
pub record FieldState : Type 0 where
  pub medium : MediumState
  pub devices : List DeviceState
  pub air : List Entry
  pub deliveries : List Delivery
  pub drops : List DropLine

abbrev pub setup_of_device : DeviceState → Setup
setup_of_device d = d.setup

abbrev pub id_of : DeviceState → ℕ
id_of d = d.setup.id

abbrev pub power_of : DeviceState → Power
power_of d = d.power

abbrev pub windows_of : DeviceState → WindowSum
windows_of d = d.windows

-- what the windows of each device count so far
abbrev pub sums_of : FieldState → List WindowSum
sums_of w = map windows_of w.devices

abbrev pub setups_of : FieldState → List Setup
setups_of w = map setup_of_device w.devices

abbrev pub ids_of : FieldState → List ℕ
ids_of w = map id_of w.devices

-- the medium is one of the same nodes, and all go by the numbers of one profile
pub record IsField (w : FieldState) : Type 0 where
  pub medium : IsMedium w.medium
  pub nodes : ids_of w ≡ nodes_of w.medium
  pub numbers : All (λ d. d.setup.profile ≡ w.medium.numbers) w.devices

-- what is logged of a tuning of the node that goes on no more, if there is one
abbrev pub entries_of : ℕ → Option Past → List Entry
entries_of node None = []
entries_of node (Some p) = Tuned (record { rank = p.rank; node = node; start = p.since; end = p.until }) ∷ []

-- what is in the queue for a device
abbrev pub due_of_device : DeviceState → Due
due_of_device d = record { sending_end = d.busy_until; alarm = d.alarm; sending_start = option_map tick_of_ordered d.ordered }

-- what v has made, but for windows, is what the lists have of it
pub record IsLogged (w : FieldState) (v : ℕ) (made : Made) : Type 0 where
  pub sent : made.sent ≡ sent_by w.air v
  pub tuned : made.tuned ≡ reverse (tuned_by w.air v)
  pub deliveries : made.deliveries ≡ filter (λ d. d.node == v) w.deliveries

-- the medium has a station for the device, on which its transmission runs, and the queue has what is due at it
pub record IsKnownDevice (w : FieldState) (due : List Due) (p : ℕ) (d : DeviceState) (station : Station) : Type 0 where
  pub there : station_of w.medium d.setup.id ≡ Some station
  pub sending : station.sending ≡ running d.busy_until (sent_by w.air d.setup.id)
  pub set : slice_get due p ≡ Some (due_of_device d)

-- at tick t the device at the place is this one of a trail: its tuning is with the medium, and what it has made is in the lists
pub record FieldShows (s : Setup) (t : ℕ) (w : FieldState) (due : List Due) (p : ℕ) (d : Device) : Type 0 where
  pub state : DeviceState
  pub there : slice_get w.devices p ≡ Some state
  pub station : Station
  pub made : Made
  pub shows : DeviceShows s t state (tunings_with s.id station.tuning made.tuned) made d
  pub ended : EndedBefore t made.tuned
  pub logged : IsLogged w s.id made
  pub known : IsKnownDevice w due p state station

-- the device at the place is that of some trail
pub record FieldIsShown (t : ℕ) (w : FieldState) (due : List Due) (p : ℕ) : Type 0 where
  pub setup : Setup
  pub device : Device
  pub shows : FieldShows setup t w due p device
