-- What a device as code keeps it goes through, next to what it has made: the same as the device of a trail.
use Rattle.std.specs.Prelude.{◌≡◌, ℕ, ◌<◌, ◌≤◌, List, ◌++◌, All, true, false, None}
use Rattle.bus_rules.specs.declared.delivery.Delivery.{Delivery}
use Rattle.bus_rules.specs.Cores.{Setup}
use Rattle.air_log.specs.AlarmRuns.{after_alarms, IsAlarmRun}
use Rattle.air_log.specs.Devices.{Device, Made}
use Rattle.air_log.specs.DeviceStates.{DeviceState, whole, RunsUntil}
use Rattle.air_log.specs.Tunings.{Tunings, channel_in, retuned, IsByChannel}
use Rattle.air_log.specs.Trails.{alarm_is_due, alarmed}
use Rattle.air_log.specs.WindowLogs.{WindowLog}
use Rattle.air_log.specs.WindowSums.{IsCounted}

-- at tick t the device, with its tunings and all else that it has made, is this one of a trail
pub record DeviceShows (q : Setup) (t : ℕ) (s : DeviceState) (x : Tunings) (made : Made) (d : Device) : Type 0 where
  pub is : whole s x made ≡ d
  pub runs : RunsUntil s.busy_until made.sent
  pub setup : s.setup ≡ q
  pub counted : IsCounted q.profile q.sends made.windows s.windows
  pub few : q.sends ≤ 4
  pub channel : channel_in x ≡ s.channel
  pub tuned : IsByChannel q.id t x
  pub taken : s.delivery ≡ None

-- with some tunings and some making it is one of some trail
pub record DeviceIsShown (t : ℕ) (s : DeviceState) : Type 0 where
  pub setup : Setup
  pub tunings : Tunings
  pub made : Made
  pub device : Device
  pub shows : DeviceShows setup t s tunings made device

-- what is made with these deliveries more, and with these windows
abbrev pub made_more : List Delivery → List WindowLog → Made → Made
made_more ds windows made = record made { deliveries = made.deliveries ++ ds; windows = windows }

-- at tick t it goes through this change as a trail does, whatever it has made: with that its tunings are those of its channel then,
-- and it makes these deliveries
pub record DeviceGoes (t : ℕ) (change : Setup → Device → Device) (old new : DeviceState) (ds : List Delivery) : Type 0 where
  pub shows : (q : Setup) (x : Tunings) (made : Made) (d : Device) → DeviceShows q t old x made d
      → (windows : List WindowLog) × DeviceShows q t new (retuned q.id t new.channel x) (made_more ds windows made) (change q d)
  pub setup : new.setup ≡ old.setup
  pub busy : new.busy_until ≡ old.busy_until
  pub own : All (λ x. x.node ≡ old.setup.id) ds

-- and these deliveries are what the list has more
abbrev pub Delivers : ℕ → (Setup → Device → Device) → DeviceState → DeviceState → List Delivery → List Delivery → Type 0
Delivers t change old new before after = (ds : List Delivery) × (after ≡ before ++ ds) × DeviceGoes t change old new ds

-- it is shown as a device at which the alarms of the tick come to an end
pub record DeviceIsEnding (clock : ℕ → ℕ) (t : ℕ) (s : DeviceState) : Type 0 where
  pub setup : Setup
  pub tunings : Tunings
  pub made : Made
  pub device : Device
  pub shows : DeviceShows setup t s tunings made device
  pub ends : IsAlarmRun clock setup t device (alarmed clock setup t device)

-- this many alarms of tick t have been taken, and each was due
pub record AreTaken (clock : ℕ → ℕ) (t k : ℕ) (old new : DeviceState) (ds : List Delivery) : Type 0 where
  pub goes : DeviceGoes t (λ q d. after_alarms clock q t k d) old new ds
  pub due : (q : Setup) (x : Tunings) (made : Made) (d : Device) → DeviceShows q t old x made d
      → (j : ℕ) → j < k → alarm_is_due t (after_alarms clock q t j d).alarm ≡ true

-- all alarms that are due at tick t have been taken
pub record TakesAlarms (clock : ℕ → ℕ) (t : ℕ) (old new : DeviceState) (before after : List Delivery) : Type 0 where
  pub count : ℕ
  pub deliveries : List Delivery
  pub listed : after ≡ before ++ deliveries
  pub taken : AreTaken clock t count old new deliveries
  pub over : alarm_is_due t new.alarm ≡ false
