-- What a log and the trails that it follows know of one another, and what the script lines of a tick leave.
use Rattle.std.specs.Prelude.{◌≡◌, ℕ, ◌+◌, ◌/◌, ◌<◌, ◌≤◌, List, Some, None, Contains, max}
use Rattle.tick_clock.specs.Clocks.{due}
use Rattle.radio_model.specs.declared.sending.Sending.{Sending}
use Rattle.scenario_text.specs.ScenarioParts.{ScenarioParts}
use Rattle.scenario_text.specs.declared.script.ScriptLine.{ScriptLine}
use Rattle.bus_rules.specs.Streams.{Streams}
use Rattle.bus_rules.specs.Cores.{Setup, booted}
use Rattle.node_core.specs.declared.stage.Stage.TheVariants.{Scanning}
use Rattle.node_core.specs.Nodes.{Node, stopped_frame, frame_alarm}
use Rattle.node_core.specs.Nodes.{with_streams}
use Rattle.air_log.specs.declared.entry.Entry.{Entry}
use Rattle.air_log.specs.Entries.{sendings_of, HasHeardEntry}
use Rattle.air_log.specs.Devices.{Device, Power, PowerOff, PowerOn, Listening}
use Rattle.air_log.specs.Lawful.{heard_by}
use Rattle.law_trails.specs.Obeying.{channel_if_on}
use Rattle.air_log.specs.Trails.{Reception, frame_start, before_tick}

-- the device of v before tick t, by its trail over what it received in the log
abbrev pub device_in : ScenarioParts → (ℕ → ℕ → ℕ) → List Entry → ℕ → ℕ → Device
device_in s clocks air v t = before_tick s v (clocks v) (heard_by air v) t

-- a script line of v is given at tick t
pub record IsLineOfTick (s : ScenarioParts) (v t : ℕ) (l : ScriptLine) : Type 0 where
  pub there : Contains s.script l
  pub node : l.node ≡ v
  pub now : frame_start s l.frame ≡ t

-- v has a Sent entry of x in the log, and x starts below t
pub record IsSentBelow (air : List Entry) (v t : ℕ) (x : Sending) : Type 0 where
  pub there : Contains (sendings_of air) x
  pub node : x.node ≡ v
  pub below : x.start < t

-- the radio is on at the channel of this rank, since tick k or earlier
pub record ListensSince (rank k : ℕ) (d : Device) : Type 0 where
  pub listening : Listening
  pub is : d.listening ≡ Some listening
  pub channel : listening.rank ≡ rank
  pub since : listening.since ≤ k

-- h came of a Heard entry of v
pub record IsReceptionOf (air : List Entry) (v : ℕ) (h : Reception) : Type 0 where
  pub sending : Sending
  pub there : HasHeardEntry air v sending
  pub packet : h.packet ≡ sending.packet
  pub end : h.end ≡ sending.end

-- a node that is on, as its boot at tick t has left it, but for what its streams were given since
pub record IsBooted (clock : ℕ → ℕ) (s : Setup) (t : ℕ) (boot : ℕ) (n : Node) : Type 0 where
  pub streams : Streams
  pub core : n.core ≡ record (booted boot) { streams = streams }
  pub frame : n.frame ≡ stopped_frame ((clock t + s.profile.lead) / s.profile.frame)
  pub zero : n.zero ≡ 0
  pub stage : n.stage ≡ Scanning

-- and its device: it scans the channel of rank 0 until the alarm of its frame, and nothing is ordered
pub record HasBooted (clock : ℕ → ℕ) (s : Setup) (t : ℕ) (boot : ℕ) (d : Device) (n : Node) : Type 0 where
  pub node : IsBooted clock s t boot n
  pub channel : channel_if_on d.listening ≡ Some 0
  pub alarm : d.alarm ≡ Some (max (due clock (frame_alarm s.profile n.frame)) t)
  pub ordered : d.ordered ≡ None

-- how often the node of a device booted
abbrev pub boots_of_power : Power → ℕ
boots_of_power (PowerOff boots) = boots
boots_of_power (PowerOn n) = n.core.boot

-- off, with no boot less than these; or on with a boot more, as that has left it
abbrev pub WentOffBy : (ℕ → ℕ) → Setup → ℕ → ℕ → Device → Power → Type 0
WentOffBy clock s t before d (PowerOff boots) = before ≤ boots
WentOffBy clock s t before d (PowerOn n) = (before < n.core.boot) × HasBooted clock s t n.core.boot d n

abbrev pub WentOff : (ℕ → ℕ) → Setup → ℕ → ℕ → Device → Type 0
WentOff clock s t before d = WentOffBy clock s t before d d.power

-- still on, with other streams at most; its radio and what is set at it are as they were
pub record DeviceStaysOn (n : Node) (d e : Device) : Type 0 where
  pub streams : Streams
  pub power : e.power ≡ PowerOn (with_streams n streams)
  pub listening : e.listening ≡ d.listening
  pub alarm : e.alarm ≡ d.alarm
  pub ordered : e.ordered ≡ d.ordered
  pub sending : e.sending ≡ d.sending
