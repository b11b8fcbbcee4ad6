-- Where nodes are idle while a run goes on.
use Rattle.std.specs.Prelude.{ℕ, Option}
use Rattle.air_log.specs.DeviceStates.{DeviceState}
use Rattle.air_log.specs.Idling.{idle_as}
use Rattle.air_log.specs.Trails.{tune_of}
use Rattle.air_log.specs.declared.idle.Idle.{Idle}

-- a device, after the script lines of frame f
abbrev pub idle_now : ℕ → DeviceState → Option Idle
idle_now f d = idle_as f d.setup.id (tune_of d.power)
