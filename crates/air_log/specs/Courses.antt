-- A trail as code goes through it: the device, and what it has made so far.
use Rattle.std.specs.Prelude.{◌≡◌, ℕ, ◌<◌, ◌≤◌, List, Some, None, slice_get, AllPairs, ◌==◌, if◌then◌else◌, min}
use Rattle.std.specs.declared.option.Option.{Option}
use Rattle.radio_model.specs.declared.sending.Sending.{Sending}
use Rattle.std.specs.Option.{option_map}
use Rattle.radio_model.specs.OnAir.{Hearing, Tuning}
use Rattle.radio_model.specs.declared.tuning.RadioTuning.{RadioTuning}
use Rattle.bus_rules.specs.declared.delivery.Delivery.{Delivery}
use Rattle.bus_rules.specs.Cores.{Setup}
use Rattle.air_log.specs.declared.entry.Entry.{Entry}
use Rattle.air_log.specs.declared.entry.HeardEntry.{HeardEntry}
use Rattle.air_log.specs.Entries.{hearing_in}
use Rattle.air_log.specs.AlarmRuns.{IsAlarmRun}
use Rattle.air_log.specs.Devices.{Device, Made}
use Rattle.air_log.specs.DeviceChanges.{DeviceShows}
use Rattle.air_log.specs.DeviceStates.{DeviceState, tick_of_ordered}
use Rattle.air_log.specs.Tunings.{tunings_with, EndedBefore}
use Rattle.air_log.specs.Trails.{Reception, device_after_receptions, device_after_end, alarmed, device_after_start}
use Rattle.air_log.specs.WindowLogs.{WindowLog}
use Rattle.air_log.specs.WindowSums.{IsCounted}

-- tuning: that of the radio; tuned: the tunings that are in the list, the last first
pub record CourseState : Type 0 where
  pub device : DeviceState
  pub tuning : RadioTuning
  pub sent : List Sending
  pub tuned : List Tuning
  pub deliveries : List Delivery

-- all that was made, with these windows, which are not kept
abbrev pub made_in : CourseState → List WindowLog → Made
made_in c windows = record { sent = c.sent; tuned = c.tuned; deliveries = c.deliveries; windows = windows }

-- at tick t it is this device of a trail
pub record CourseShows (q : Setup) (t : ℕ) (c : CourseState) (d : Device) : Type 0 where
  pub windows : List WindowLog
  pub shows : DeviceShows q t c.device (tunings_with q.id c.tuning c.tuned) (made_in c windows) d
  pub ended : EndedBefore t c.tuned

-- its lists are what this device has made
pub record HasListsOf (q : Setup) (c : CourseState) (d : Device) : Type 0 where
  pub sent : d.made.sent ≡ c.sent
  pub tuned : d.made.tuned ≡ c.tuned
  pub deliveries : d.made.deliveries ≡ c.deliveries
  pub counted : IsCounted q.profile q.sends d.made.windows c.device.windows

pub record CourseIsShown (t : ℕ) (c : CourseState) : Type 0 where
  pub setup : Setup
  pub device : Device
  pub shows : CourseShows setup t c device

-- at tick t it goes through this change, as a trail does
abbrev pub Goes : ℕ → (Setup → Device → Device) → CourseState → CourseState → Type 0
Goes t change old new = (q : Setup) (d : Device) → CourseShows q t old d → CourseShows q t new (change q d)

-- the first k of a list have keys below t, and the others have not
pub record IsSplitByKey {X : Type 0} (key : X → ℕ) (xs : List X) (k t : ℕ) : Type 0 where
  pub before : (i : ℕ) (x : X) → slice_get xs i ≡ Some x → i < k → key x < t
  pub behind : (i : ℕ) (x : X) → slice_get xs i ≡ Some x → k ≤ i → t ≤ key x

abbrev pub IsSortedByKey : {X : Type 0} → (X → ℕ) → List X → Type 0
IsSortedByKey key xs = AllPairs (λ a b. key a ≤ key b) xs

abbrev pub end_of_reception : HeardEntry → ℕ
end_of_reception h = h.end

abbrev pub reception_in : HeardEntry → Reception
reception_in h = record { packet = h.packet; end = h.end }

abbrev pub hearing_of : HeardEntry → Hearing
hearing_of h = record {
  node = h.node;
  sending = record { rank = h.rank; node = h.from; start = h.start; end = h.end; packet = h.packet };
}

-- the reception in an entry, if it is of v
abbrev pub only_of : ℕ → Option Hearing → Option Hearing
only_of v None = None
only_of v (Some h) = if h.node == v then Some h else None

abbrev pub hearing_with : Entry → ℕ → Option Hearing
hearing_with e v = only_of v (hearing_in e)

-- the earlier of a tick and another one, if there is one
abbrev pub least_of : ℕ → Option ℕ → ℕ
least_of t None = t
least_of t (Some u) = min t u

-- the least of what is set at a device, the end of the next reception and another tick
abbrev pub least_due : DeviceState → Option HeardEntry → ℕ → ℕ
least_due d h until =
    least_of (least_of (least_of (least_of until d.alarm) (option_map tick_of_ordered d.ordered)) d.busy_until) (option_map end_of_reception h)

-- what comes before the alarms of a tick, after its script lines, and with its alarms and its start
abbrev pub before_alarms_in : (ℕ → ℕ) → Setup → ℕ → List Reception → Device → Device
before_alarms_in clock q t hs d = device_after_end clock q t (device_after_receptions clock q t hs d)

abbrev pub rest_of_tick : (ℕ → ℕ) → Setup → ℕ → List Reception → Device → Device
rest_of_tick clock q t hs d = device_after_start q t (alarmed clock q t (before_alarms_in clock q t hs d))

-- at this device the alarms of the tick come to an end
abbrev pub AlarmsEnd : (ℕ → ℕ) → Setup → ℕ → Device → Type 0
AlarmsEnd clock q t d = IsAlarmRun clock q t d (alarmed clock q t d)

-- a device is shown at which they do
pub record IsShownEnding (clock : ℕ → ℕ) (t : ℕ) (before : Setup → Device → Device) (c : CourseState) : Type 0 where
  pub setup : Setup
  pub device : Device
  pub shows : CourseShows setup t c device
  pub ends : AlarmsEnd clock setup t (before setup device)
