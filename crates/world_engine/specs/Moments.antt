-- At which moment of a tick the devices of a run are on their trails.
use Rattle.std.specs.Prelude.{◌≡◌, ◌⊎◌, ℕ, suc, List, ◌&&◌, ◌==◌, filter, fold}
use Rattle.event_calendar.specs.declared.class.Class.{Class}
use Rattle.event_calendar.specs.declared.class.Class.TheVariants.{SendingEnd, Alarm, SendingStart}
use Rattle.scenario_text.specs.ScenarioParts.{ScenarioParts}
use Rattle.scenario_text.specs.declared.script.ScriptLine.{ScriptLine}
use Rattle.air_log.specs.Devices.{Device}
use Rattle.air_log.specs.ScriptedDevices.{device_after_line}
use Rattle.scenario_text.specs.Setups.{setup_of}
use Rattle.air_log.specs.Trails.{Reception, frame_start, device_after_script, device_after_receptions, before_alarms, before_start, before_tick}

-- before the tick; in its script lines, where these lines of the script have been given; or at the ends of transmissions, the
-- alarms, or the starts of transmissions
pub data TickMoment : Type 0 where
  Before : TickMoment
  InLines : (told : List ScriptLine) → TickMoment
  At : (class : Class) → TickMoment

-- the device by its trail after these lines of the script, which are given at tick t
abbrev pub trail_after_lines : ScenarioParts → ℕ → (ℕ → ℕ) → List Reception → ℕ → List ScriptLine → Device
trail_after_lines s v clock hs t told =
    fold (device_after_line clock (setup_of s v) t) (before_tick s v clock hs t) (filter (λ l. (l.node == v) && (frame_start s l.frame == t)) told)

-- the device by its trail before what happens of a class at tick t, and after it
abbrev pub device_at_point : ScenarioParts → ℕ → (ℕ → ℕ) → List Reception → ℕ → Class → Device
device_at_point s v clock hs t SendingEnd = device_after_receptions clock (setup_of s v) t hs (device_after_script s v clock t (before_tick s v clock hs t))
device_at_point s v clock hs t Alarm = before_alarms s v clock hs t (before_tick s v clock hs t)
device_at_point s v clock hs t SendingStart = before_start s v clock hs t (before_tick s v clock hs t)

abbrev pub after_point : ScenarioParts → ℕ → (ℕ → ℕ) → List Reception → ℕ → Class → Device
after_point s v clock hs t SendingEnd = before_alarms s v clock hs t (before_tick s v clock hs t)
after_point s v clock hs t Alarm = before_start s v clock hs t (before_tick s v clock hs t)
after_point s v clock hs t SendingStart = before_tick s v clock hs (suc t)

-- the device has come to this moment of tick t
abbrev pub IsAtMoment : ScenarioParts → (ℕ → ℕ) → List Reception → ℕ → ℕ → TickMoment → Device → Type 0
IsAtMoment s clock hs v t Before d = d ≡ before_tick s v clock hs t
IsAtMoment s clock hs v t (InLines told) d = d ≡ trail_after_lines s v clock hs t told
IsAtMoment s clock hs v t (At class) d = (d ≡ device_at_point s v clock hs t class) ⊎ (d ≡ after_point s v clock hs t class)

-- all receptions end before this tick
abbrev pub over_by : ℕ → TickMoment → ℕ
over_by t Before = t
over_by t (InLines told) = t
over_by t (At class) = suc t
