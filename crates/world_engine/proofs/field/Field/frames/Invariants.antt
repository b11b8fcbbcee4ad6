use Rattle.air_log.specs.ClockLists.{clocks_by}
use Rattle.world_engine.proofs.FramesInCode.{IsAtFrame}
use Rattle.world_engine.proofs.field.Field.frames.Given as goal

abbrev pub invariant-loop-frame : goal.invariant-loop-frame
invariant-loop-frame g l = IsAtFrame l.fn.s (clocks_by g.C.DriftClock.readings l.fn.s.nodes l.fn.clocks) l.told l.frame l.scanned.items l.idle.items l.self
    (g.Q.Orders.map l.orders)
