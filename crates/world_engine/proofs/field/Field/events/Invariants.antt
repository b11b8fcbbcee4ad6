use Rattle.std.proofs.Common.{◌+◌}
use Rattle.air_log.specs.ClockLists.{clocks_by}
use Rattle.world_engine.specs.Frames.{told_before}
use Rattle.world_engine.proofs.EventsInCode.{IsWithin, keys_left}
use Rattle.world_engine.proofs.field.Field.events.Given as goal

abbrev pub invariant-loop-t : goal.invariant-loop-t
invariant-loop-t g l = IsWithin l.fn.self.air l.fn.s (clocks_by g.C.DriftClock.readings l.fn.s.nodes l.fn.clocks)
    (told_before l.fn.s (l.fn.frame + 1)) l.fn.frame l.self (g.Q.Orders.map l.orders)

abbrev pub decreases-loop-t : goal.decreases-loop-t
decreases-loop-t g l = keys_left l.fn.s l.fn.frame (g.Q.Orders.map l.orders)
