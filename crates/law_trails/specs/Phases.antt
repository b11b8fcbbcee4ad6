-- The phases of a tick, and the device of a trail as it enters each of them.
use Rattle.std.specs.Prelude.{◌≡◌, ⊤, ℕ, suc, ◌≤◌, List, ◌∷◌, ◌++◌, Some, None, Contains, fold}
use Rattle.std.specs.Option.{IfSome}
use Rattle.scenario_text.specs.ScenarioParts.{ScenarioParts}
use Rattle.scenario_text.specs.ScenarioFacts.{IsScriptLine}
use Rattle.scenario_text.specs.declared.script.ScriptLine.{ScriptLine}
use Rattle.air_log.specs.Devices.{Device, Power, PowerOff, PowerOn}
use Rattle.air_log.specs.ScriptedDevices.{device_after_line}
use Rattle.air_log.specs.AlarmRuns.{after_alarms}
use Rattle.scenario_text.specs.Setups.{setup_of}
use Rattle.air_log.specs.Trails.{Reception, frame_start, lines_at, device_after_script, ending_at, device_after_reception, device_after_receptions}
use Rattle.air_log.specs.Trails.{before_alarms, before_start, tick, before_tick}

-- what is done next: script lines are given, receptions are taken, the end of the own transmission, alarms, the start of the
-- ordered transmission; or all is over
pub data Phase : Type 0 where
  Lines : Phase
  Hearings : Phase
  End : Phase
  Alarms : Phase
  Start : Phase
  Over : Phase

abbrev pub next_phase : Phase → Phase
next_phase Lines = Hearings
next_phase Hearings = End
next_phase End = Alarms
next_phase Alarms = Start
next_phase Start = Over
next_phase Over = Over

-- the device of v that enters a phase of tick t
abbrev pub device_at : ScenarioParts → ℕ → (ℕ → ℕ) → List Reception → ℕ → Phase → Device
device_at s v clock hs t Lines = before_tick s v clock hs t
device_at s v clock hs t Hearings = device_after_script s v clock t (before_tick s v clock hs t)
device_at s v clock hs t End = device_after_receptions clock (setup_of s v) t hs (device_after_script s v clock t (before_tick s v clock hs t))
device_at s v clock hs t Alarms = before_alarms s v clock hs t (before_tick s v clock hs t)
device_at s v clock hs t Start = before_start s v clock hs t (before_tick s v clock hs t)
device_at s v clock hs t Over = tick s v clock hs t (before_tick s v clock hs t)

-- the least ticks at which an own transmission may end, an alarm may be due and an ordered transmission may start
abbrev pub ends_from : ℕ → Phase → ℕ
ends_from t Lines = t
ends_from t Hearings = t
ends_from t End = t
ends_from t Alarms = suc t
ends_from t Start = suc t
ends_from t Over = suc t

abbrev pub alarms_from : ℕ → Phase → ℕ
alarms_from t Lines = t
alarms_from t Hearings = t
alarms_from t End = t
alarms_from t Alarms = t
alarms_from t Start = suc t
alarms_from t Over = suc t

abbrev pub starts_from : ℕ → Phase → ℕ
starts_from t Lines = t
starts_from t Hearings = t
starts_from t End = t
starts_from t Alarms = t
starts_from t Start = t
starts_from t Over = suc t

-- a node that is off has its radio off, and nothing is set at it
pub record IsSilent (d : Device) : Type 0 where
  pub radio : d.listening ≡ None
  pub alarm : d.alarm ≡ None
  pub ordered : d.ordered ≡ None

abbrev pub SilentBy : Device → Power → Type 0
SilentBy d (PowerOff boots) = IsSilent d
SilentBy d (PowerOn n) = ⊤

-- what is known of each device in a phase of tick t: nothing that was due is left
pub record NothingDue (t : ℕ) (phase : Phase) (d : Device) : Type 0 where
  pub sending : IfSome d.sending (λ x. ends_from t phase ≤ x.end)
  pub alarm : IfSome d.alarm (λ due. alarms_from t phase ≤ due)
  pub ordered : IfSome d.ordered (λ o. starts_from t phase ≤ o.tick)
  pub off : SilentBy d d.power

-- the line l of v is given next at tick t, to d
pub record IsNextLineOf (s : ScenarioParts) (v : ℕ) (clock : ℕ → ℕ) (hs : List Reception) (t : ℕ)
    (l : ScriptLine) (d : Device) : Type 0 where
  pub told : List ScriptLine
  pub rest : List ScriptLine
  pub lines : lines_at s v t ≡ told ++ l ∷ rest
  pub is : d ≡ fold (device_after_line clock (setup_of s v) t) (before_tick s v clock hs t) told
  pub there : Contains s.script l
  pub node : l.node ≡ v
  pub now : frame_start s l.frame ≡ t
  pub line : IsScriptLine s l

-- the reception h of v that ends at tick t is taken next, by d
pub record IsNextHearing (s : ScenarioParts) (v : ℕ) (clock : ℕ → ℕ) (hs : List Reception) (t : ℕ)
    (h : Reception) (d : Device) : Type 0 where
  pub taken : List Reception
  pub rest : List Reception
  pub hearings : ending_at t hs ≡ taken ++ h ∷ rest
  pub is : d ≡ fold (device_after_reception clock (setup_of s v) t) (device_after_script s v clock t (before_tick s v clock hs t)) taken
  pub there : Contains hs h
  pub now : h.end ≡ t

-- the alarm of d is due at tick t, after those that were due at it before
pub record IsNextAlarm (s : ScenarioParts) (v : ℕ) (clock : ℕ → ℕ) (hs : List Reception) (t : ℕ)
    (d : Device) : Type 0 where
  pub gone : ℕ
  pub is : d ≡ after_alarms clock (setup_of s v) t gone (before_alarms s v clock hs t (before_tick s v clock hs t))
  pub due : d.alarm ≡ Some t
