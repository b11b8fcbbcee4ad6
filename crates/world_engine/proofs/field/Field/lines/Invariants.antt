use Rattle.std.proofs.Common.{length, ◌-◌}
use Rattle.air_log.specs.ClockLists.{clocks_by}
use Rattle.world_engine.proofs.LinesInCode.{AreTold}
use Rattle.world_engine.proofs.field.Field.lines.Given as goal

abbrev pub invariant-loop-line : goal.invariant-loop-line
invariant-loop-line g l = AreTold l.fn.self.air l.s (clocks_by g.C.DriftClock.readings l.s.nodes l.clocks) l.frame l.told l.self (g.Q.Orders.map l.orders)

abbrev pub decreases-loop-line : goal.decreases-loop-line
decreases-loop-line g l = length l.s.script - l.told
