use Rattle.std.proofs.Common.{◌≡◌, ◌++◌, take, filter_map}
use Rattle.world_engine.specs.Idling.{idle_now}
use Rattle.world_engine.proofs.field.Field.list_idle.Given as goal

abbrev pub invariant-loop-device : goal.invariant-loop-device
invariant-loop-device l = l.idle.items ≡ l.fn.idle.items ++ filter_map (idle_now l.fn.frame) (take l.device-index l.device-items)
