-- What every row may use of its step: what was received is of its flood, and the device is in its ranges.
use Rattle.std.specs.Prelude.{◌≡◌, ℕ, ◌/◌, ◌<◌, List, Some}
use Rattle.scenario_text.specs.ScenarioParts.{ScenarioParts}
use Rattle.radio_model.specs.declared.sending.Sending.{Sending}
use Rattle.radio_model.specs.Hearing.{frame_of_sending}
use Rattle.air_log.specs.declared.entry.Entry.{Entry}
use Rattle.air_log.specs.Entries.{HasHeardEntry}
use Rattle.air_log.specs.Devices.{Device}
use Rattle.air_log.specs.Lawful.{heard_by}
use Rattle.air_log.specs.Trails.{Reception, frame_start}
use Rattle.law_trails.specs.Obeying.{channel_if_on}
use Rattle.law_trails.specs.Phases.{Phase, IsNextHearing, IsNextAlarm, device_at}
use Rattle.law_trails.specs.DeviceRanges.{IsWellAndProper}
use Rattle.law_safety.specs.CountedFrames.{frame_alarm_at}
use Rattle.law_safety.specs.FloodSendings.{IsOfFlood}
use Rattle.law_safety.specs.Rows.{AtTick}

-- what v takes as received at tick t was sent in a flood of the true frame, on the channel to which the device is tuned
pub record IsHeardNow (s : ScenarioParts) (clocks : ℕ → ℕ → ℕ) (air : List Entry) (v t : ℕ) (h : Reception) (d : Device) : Type 0 where
  pub sending : Sending
  pub there : HasHeardEntry air v sending
  pub packet : h.packet ≡ sending.packet
  pub end : sending.end ≡ t
  pub before : sending.start < t
  pub of_flood : IsOfFlood s clocks air sending
  pub channel : channel_if_on d.listening ≡ Some sending.rank
  pub frame : frame_of_sending s.profile sending ≡ t / s.profile.frame
  pub began : frame_start s (t / s.profile.frame) < t
  pub early : t < frame_alarm_at s clocks v (t / s.profile.frame)

abbrev pub HeardInFloods : Type 0
HeardInFloods =
    (s : ScenarioParts) (clocks : ℕ → ℕ → ℕ) (air : List Entry) (v t : ℕ) → AtTick s clocks air v t
    → (h : Reception) (d : Device) → IsNextHearing s v (clocks v) (heard_by air v) t h d → IsHeardNow s clocks air v t h d

-- the device is in its ranges where a reception is taken, where an alarm is due, and as it enters each phase
abbrev pub WellAtHearings : Type 0
WellAtHearings =
    (s : ScenarioParts) (clocks : ℕ → ℕ → ℕ) (air : List Entry) (v t : ℕ) → AtTick s clocks air v t
    → (h : Reception) (d : Device) → IsNextHearing s v (clocks v) (heard_by air v) t h d → IsWellAndProper s v d

abbrev pub WellAtAlarms : Type 0
WellAtAlarms =
    (s : ScenarioParts) (clocks : ℕ → ℕ → ℕ) (air : List Entry) (v t : ℕ) → AtTick s clocks air v t
    → (d : Device) → IsNextAlarm s v (clocks v) (heard_by air v) t d → IsWellAndProper s v d

abbrev pub WellInPhases : Type 0
WellInPhases =
    (s : ScenarioParts) (clocks : ℕ → ℕ → ℕ) (air : List Entry) (v t : ℕ) → AtTick s clocks air v t
    → (phase : Phase) → IsWellAndProper s v (device_at s v (clocks v) (heard_by air v) t phase)
