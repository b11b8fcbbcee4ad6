-- A device that does nothing, and one that is off.
use Rattle.std.specs.Prelude.{◌≡◌, None}
use Rattle.air_log.specs.Devices.{Device}

-- nothing is ordered and nothing is being sent
pub record IsStill (d : Device) : Type 0 where
  pub ordered : d.ordered ≡ None
  pub sending : d.sending ≡ None

-- a node that is off does nothing
pub record IsOff (d : Device) : Type 0 where
  pub alarm : d.alarm ≡ None
  pub radio : d.listening ≡ None
  pub still : IsStill d
