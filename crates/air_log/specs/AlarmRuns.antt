-- The alarms of one tick, one after another.
use Rattle.std.specs.Prelude.{◌≡◌, ℕ, zero, suc, ◌<◌, true, false}
use Rattle.bus_rules.specs.Cores.{Setup}
use Rattle.air_log.specs.Devices.{Device}
use Rattle.air_log.specs.Trails.{alarm_is_due, one_alarm}

-- after this many alarms at tick t
abbrev pub after_alarms : (ℕ → ℕ) → Setup → ℕ → ℕ → Device → Device
after_alarms clock s t zero d = d
after_alarms clock s t (suc k) d = one_alarm clock s t (after_alarms clock s t k d)

-- from d on alarms were due one after another, and with e none is due any more
pub record IsAlarmRun (clock : ℕ → ℕ) (s : Setup) (t : ℕ) (d e : Device) : Type 0 where
  pub count : ℕ
  pub is : e ≡ after_alarms clock s t count d
  pub due : (j : ℕ) → j < count → alarm_is_due t (after_alarms clock s t j d).alarm ≡ true
  pub over : alarm_is_due t e.alarm ≡ false
