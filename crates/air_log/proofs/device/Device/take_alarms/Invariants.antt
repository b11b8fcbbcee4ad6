use Rattle.std.proofs.Common.{List, ◌≡◌, ◌++◌}
use Rattle.bus_rules.specs.declared.delivery.Delivery.{Delivery}
use Rattle.air_log.specs.DeviceChanges.{AreTaken}
use Rattle.air_log.proofs.device.Device.take_alarms.Given as goal

abbrev pub invariant-loop : goal.invariant-loop
invariant-loop g l = (ds : List Delivery) × (l.deliveries.items ≡ l.fn.deliveries.items ++ ds)
    × AreTaken (g.C.DriftClock.readings l.fn.clock) l.fn.t l.counter l.fn.self l.self ds × (l.self.setup ≡ l.fn.self.setup)
