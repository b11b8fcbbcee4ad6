-- What holds of a device at all times, and what it is seen as.
use Rattle.std.specs.Prelude.{◌≡◌, ℕ, ◌^◌, ◌<◌, Bool, true, false}
use Rattle.lwb_base.specs.Profile.{Numbers}
use Rattle.node_core.specs.Nodes.{NodeState, Node}
use Rattle.air_log.specs.Devices.{Power, PowerOff, PowerOn}

abbrev pub power_with : Bool → ℕ → Node → Power
power_with false boots n = PowerOff boots
power_with true boots n = PowerOn n

pub record IsDevice (node : ℕ) (profile : Numbers) (core : NodeState) (on : Bool) (boots : ℕ) : Type 0 where
  pub id : node ≡ core.setup.id
  pub numbers : profile ≡ core.setup.profile
  pub boot : on ≡ true → core.node.core.boot ≡ boots
  pub early : core.node.zero < 2 ^ 47
