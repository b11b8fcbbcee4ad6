use Rattle.std.proofs.Common.{◌≡◌, drop, map}
use Rattle.air_log.specs.DeviceStates.{core_in}
use Rattle.world_engine.specs.Worlds.{core_of}
use Rattle.world_engine.proofs.engine.Engine.node.Given as goal

abbrev pub invariant-loop-device : goal.invariant-loop-device
invariant-loop-device g l = core_of (map core_in (drop l.device-index l.device-items)) l.node ≡ core_of (map core_in l.device-items) l.node
