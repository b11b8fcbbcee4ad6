use Rattle.std.proofs.Common.{◌≡◌, ℕ, Bool, true, false, refl, ap, ◌∙◌}
use Rattle.node_core.specs.Nodes.{Node}
use Rattle.air_log.specs.Devices.{power_is_on}
use Rattle.air_log.specs.DeviceStates.{DeviceState}
use Rattle.air_log.specs.DeviceShapes.{power_with}
use Rattle.air_log.proofs.device.Device.is_on.Goals as goal

on_by : (on : Bool) (boots : ℕ) (n : Node) → on ≡ power_is_on (power_with on boots n)
on_by false boots n = refl
on_by true boots n = refl

pub returns : goal.returns
returns c = on_by c.self.inside.on c.self.inside.boots c.self.inside.core.node ∙ ap (λ (d : DeviceState). power_is_on d.power) c.self.view_is
