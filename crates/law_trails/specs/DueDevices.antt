-- A trail written down: the ticks at which something happens at its node, and the device before each of them.
use Rattle.std.specs.Prelude.{◌≡◌, ⊤, ℕ, suc, ◌≤◌, List, [], ◌∷◌}
use Rattle.scenario_text.specs.ScenarioParts.{ScenarioParts}
use Rattle.air_log.specs.WindowLogs.{WindowLog}
use Rattle.air_log.specs.Devices.{Device}
use Rattle.air_log.specs.Trails.{Reception, before_tick}

-- the device before a tick, but for what is kept of its windows
pub record DueDevice : Type 0 where
  pub tick : ℕ
  pub device : List WindowLog → Device

abbrev pub before : ℕ → (List WindowLog → Device) → DueDevice
before t device = record { tick = t; device = device }

-- it is that device, with some windows
pub record IsDeviceWithWindows (d : Device) (device : List WindowLog → Device) : Type 0 where
  pub windows : List WindowLog
  pub is : d ≡ device windows

-- from tick a on to each of these ticks the device is as it is written there
abbrev pub StandsAs : ScenarioParts → ℕ → (ℕ → ℕ) → List Reception → ℕ → List DueDevice → Type 0
StandsAs s v clock hs a [] = ⊤
StandsAs s v clock hs a (x ∷ xs) =
    ((t : ℕ) → a ≤ t → t ≤ x.tick → IsDeviceWithWindows (before_tick s v clock hs t) x.device) × StandsAs s v clock hs (suc x.tick) xs
