use Rattle.std.proofs.Common.{◌≡◌, take, map}
use Rattle.world_engine.specs.FieldSteps.{first_device}
use Rattle.world_engine.proofs.field_bounds.devices.Given as goal

abbrev pub invariant-loop-line : goal.invariant-loop-line
invariant-loop-line g l = l.devices.items ≡ map (first_device l.s) (take l.line-index l.line-items)
