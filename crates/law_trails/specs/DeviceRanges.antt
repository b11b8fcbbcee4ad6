-- A device in its ranges: what its node keeps, what is ordered and sent, and what was sent.
use Rattle.std.specs.Prelude.{ℕ, ◌<◌, ◌≤◌, List, All, length}
use Rattle.std.specs.Option.{IfSome}
use Rattle.lwb_base.specs.declared.limits.TheConstants.{MOST_BOOTS}
use Rattle.bus_rules.specs.Cores.{Setup}
use Rattle.air_log.specs.Devices.{Device, Power, PowerOff, PowerOn}
use Rattle.scenario_text.specs.Setups.{setup_of}
use Rattle.air_log.specs.Trails.{Reception, device_after_script, device_after_receptions, before_alarms, before_start, before_tick}
use Rattle.scenario_text.specs.ScenarioParts.{ScenarioParts}
use Rattle.law_trails.specs.NodeRanges.{IsNodeInRange}
use Rattle.law_trails.specs.SpokenRanges.{IsSpoken, IsProper}

-- a node that is off has booted no more often than it may
abbrev pub IsPower : Setup → Power → Type 0
IsPower s (PowerOff boots) = boots ≤ MOST_BOOTS
IsPower s (PowerOn n) = IsNodeInRange s n

-- Q holds of each packet that is ordered, sent or was sent
pub record IsRanged (Q : List ℕ → Type 0) (s : Setup) (d : Device) : Type 0 where
  pub power : IsPower s d.power
  pub ordered : IfSome d.ordered (λ o. Q o.packet)
  pub sending : IfSome d.sending (λ x. Q x.packet)
  pub sent : All (λ x. Q x.packet) d.made.sent

-- the device of node v: its packets say what may be said, and what is of the profile
abbrev pub IsWell : ScenarioParts → ℕ → Device → Type 0
IsWell s v d = IsRanged (IsSpoken s.profile) (setup_of s v) d

abbrev pub IsWellAndProper : ScenarioParts → ℕ → Device → Type 0
IsWellAndProper s v d = IsRanged (IsProper s.profile) (setup_of s v) d

-- H holds of each packet whose reception ended before tick t
abbrev pub HeardBefore : (List ℕ → Type 0) → List Reception → ℕ → Type 0
HeardBefore H hs t = All (λ h. h.end < t → H h.packet) hs

-- none of them is longer than the profile's greatest packet
abbrev pub AreShort : ScenarioParts → List Reception → ℕ → Type 0
AreShort s hs t = HeardBefore (λ q. length q ≤ s.profile.packet_max) hs t

-- P holds of the device of v before tick t, and after each of its phases: the script lines, the receptions, the end of
-- the own transmission, and the alarms
pub record HoldsThrough (P : Device → Type 0) (s : ScenarioParts) (v : ℕ) (clock : ℕ → ℕ) (hs : List Reception) (t : ℕ) : Type 0 where
  pub before : P (before_tick s v clock hs t)
  pub told : P (device_after_script s v clock t (before_tick s v clock hs t))
  pub hearing : P (device_after_receptions clock (setup_of s v) t hs (device_after_script s v clock t (before_tick s v clock hs t)))
  pub end : P (before_alarms s v clock hs t (before_tick s v clock hs t))
  pub alarms : P (before_start s v clock hs t (before_tick s v clock hs t))
