-- The trail of a node: what it does from tick to tick, by the script, its clock and what it receives.
use Rattle.std.specs.Prelude.{ℕ, zero, suc, ◌+◌, ◌*◌, List, [], ◌∷◌, ◌++◌, Bool, true, false, ◌&&◌, ◌==◌}
use Rattle.std.specs.Prelude.{nat_lt, if◌then◌else◌, Some, None, filter, fold, length}
use Rattle.std.specs.declared.option.Option.{Option}
use Rattle.lwb_base.specs.Profile.{airtime}
use Rattle.lwb_base.specs.declared.event.Event.TheVariants.{Alarm, Heard, Sent}
use Rattle.radio_model.specs.declared.sending.Sending.{Sending}
use Rattle.scenario_text.specs.ScenarioParts.{ScenarioParts}
use Rattle.scenario_text.specs.Setups.{setup_of}
use Rattle.scenario_text.specs.declared.script.ScriptLine.{ScriptLine}
use Rattle.bus_rules.specs.declared.tune.Tune.{Tune}
use Rattle.bus_rules.specs.Cores.{Setup}
use Rattle.air_log.specs.Devices.{Device, Power, PowerOff, PowerOn, Listening, OrderedPacket, at_rest, event, silenced}
use Rattle.air_log.specs.ScriptedDevices.{device_after_line}

-- a packet that was received whole, and the tick at which its reception ended
pub record Reception : Type 0 where
  pub packet : List ℕ
  pub end : ℕ

-- the run ends at this tick
abbrev pub run_end : ScenarioParts → ℕ
run_end s = s.frames * s.profile.frame

-- the first tick of frame f
abbrev pub frame_start : ScenarioParts → ℕ → ℕ
frame_start s f = f * s.profile.frame

-- first: the script lines of v, if the frame that they name starts at t
abbrev pub lines_at : ScenarioParts → ℕ → ℕ → List ScriptLine
lines_at s v t = filter (λ l. (l.node == v) && (frame_start s l.frame == t)) s.script

abbrev pub device_after_script : ScenarioParts → ℕ → (ℕ → ℕ) → ℕ → Device → Device
device_after_script s v clock t d = fold (device_after_line clock (setup_of s v) t) d (lines_at s v t)

-- second: the receptions that end at t, in the order of the list
abbrev pub ending_at : ℕ → List Reception → List Reception
ending_at t hs = filter (λ h. h.end == t) hs

abbrev pub device_after_reception : (ℕ → ℕ) → Setup → ℕ → Device → Reception → Device
device_after_reception clock s t d h = event clock s t (Heard h.packet) None d

abbrev pub device_after_receptions : (ℕ → ℕ) → Setup → ℕ → List Reception → Device → Device
device_after_receptions clock s t hs d = fold (device_after_reception clock s t) d (ending_at t hs)

-- third: the end of the own transmission
abbrev pub device_ended_by : (ℕ → ℕ) → Setup → ℕ → Device → Option Sending → Device
device_ended_by clock s t d None = d
device_ended_by clock s t d (Some x) = if x.end == t then event clock s t Sent (Some x) (record d { sending = None }) else d

abbrev pub device_after_end : (ℕ → ℕ) → Setup → ℕ → Device → Device
device_after_end clock s t d = device_ended_by clock s t d d.sending

-- fourth: the alarm, and again as long as one is due at t
abbrev pub alarm_is_due : ℕ → Option ℕ → Bool
alarm_is_due t None = false
alarm_is_due t (Some tick) = tick == t

abbrev pub one_alarm : (ℕ → ℕ) → Setup → ℕ → Device → Device
one_alarm clock s t d = event clock s t Alarm None (record d { alarm = None })

unfoldable pub alarms : (ℕ → ℕ) → Setup → ℕ → Bool → ℕ → Device → Device
alarms clock s t false more d = d
alarms clock s t true zero d = d
alarms clock s t true (suc more) d =
    let after = one_alarm clock s t d in
    alarms clock s t (alarm_is_due t after.alarm) more after

-- The recursion needs a limit. By a clock that keeps the drift law it cuts no alarm off: they end within it, by the law
-- `alarms_of_a_tick_end` (src/trail_laws.rt)
abbrev pub alarm_limit : (ℕ → ℕ) → ℕ → ℕ
alarm_limit clock t = clock t + 300

abbrev pub alarmed : (ℕ → ℕ) → Setup → ℕ → Device → Device
alarmed clock s t d = alarms clock s t (alarm_is_due t d.alarm) (alarm_limit clock t) d

-- fifth: the start of the ordered transmission. It has no effect where the radio is off or the node still sends
abbrev pub sending_from : Setup → ℕ → List ℕ → Listening → Sending
sending_from s t packet l = record { rank = l.rank; node = s.id; start = t; end = t + airtime s.profile (length packet); packet = packet }

abbrev pub starts : Setup → ℕ → List ℕ → Device → Option Listening → Option Sending → Device
starts s t packet d None sending = record d { ordered = None }
starts s t packet d (Some l) (Some x) = record d { ordered = None }
starts s t packet d (Some l) None =
    record d { ordered = None; sending = Some (sending_from s t packet l); made = record (d.made) { sent = d.made.sent ++ sending_from s t packet l ∷ [] } }

abbrev pub begun_by : Setup → ℕ → Device → Option OrderedPacket → Device
begun_by s t d None = d
begun_by s t d (Some o) = if o.tick == t then starts s t o.packet d d.listening d.sending else d

abbrev pub device_after_start : Setup → ℕ → Device → Device
device_after_start s t d = begun_by s t d d.ordered

-- the transmission that starts at t at a device, if one does
abbrev pub starting_by : Setup → ℕ → Option OrderedPacket → Option Listening → Option Sending → List Sending
starting_by s t None l sending = []
starting_by s t (Some o) None sending = []
starting_by s t (Some o) (Some l) (Some x) = []
starting_by s t (Some o) (Some l) None = if o.tick == t then sending_from s t o.packet l ∷ [] else []

abbrev pub sendings_starting : Setup → ℕ → Device → List Sending
sendings_starting s t d = starting_by s t d.ordered d.listening d.sending

-- tick t: what comes before the alarms, what comes before the start of a transmission, and the whole
abbrev pub before_alarms : ScenarioParts → ℕ → (ℕ → ℕ) → List Reception → ℕ → Device → Device
before_alarms s v clock hs t d =
    let node = setup_of s v in
    device_after_end clock node t (device_after_receptions clock node t hs (device_after_script s v clock t d))

abbrev pub before_start : ScenarioParts → ℕ → (ℕ → ℕ) → List Reception → ℕ → Device → Device
before_start s v clock hs t d = alarmed clock (setup_of s v) t (before_alarms s v clock hs t d)

abbrev pub tick : ScenarioParts → ℕ → (ℕ → ℕ) → List Reception → ℕ → Device → Device
tick s v clock hs t d = device_after_start (setup_of s v) t (before_start s v clock hs t d)

-- the device before tick t
unfoldable pub before_tick : ScenarioParts → ℕ → (ℕ → ℕ) → List Reception → ℕ → Device
before_tick s v clock hs zero = at_rest
before_tick s v clock hs (suc t) = tick s v clock hs t (before_tick s v clock hs t)

-- the trail of v by its clock and what it received: the device at the end of the run, at which its tuning ends
abbrev pub trail : ScenarioParts → ℕ → (ℕ → ℕ) → List Reception → Device
trail s v clock hs = silenced v (run_end s) (before_tick s v clock hs (run_end s))

-- the device after the script lines of frame f
abbrev pub at_frame : ScenarioParts → ℕ → (ℕ → ℕ) → List Reception → ℕ → Device
at_frame s v clock hs f = device_after_script s v clock (frame_start s f) (before_tick s v clock hs (frame_start s f))

abbrev pub tune_of : Power → Option Tune
tune_of (PowerOff boots) = None
tune_of (PowerOn n) = Some n.core.tune

-- the tune after the script lines of frame f; none where the node is off, or the run has no such frame
abbrev pub tune_at : ScenarioParts → ℕ → (ℕ → ℕ) → List Reception → ℕ → Option Tune
tune_at s v clock hs f = if nat_lt f s.frames then tune_of (at_frame s v clock hs f).power else None

-- the tune with which a transmission of tick t begins; none where the node is off
abbrev pub tune_when : ScenarioParts → ℕ → (ℕ → ℕ) → List Reception → ℕ → Option Tune
tune_when s v clock hs t = tune_of (before_start s v clock hs t (before_tick s v clock hs t)).power
