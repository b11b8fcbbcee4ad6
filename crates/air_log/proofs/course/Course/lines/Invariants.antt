use Rattle.std.proofs.Common.{length, ◌-◌}
use Rattle.air_log.proofs.LinesOfCourses.{AreTold}
use Rattle.air_log.proofs.course.Course.lines.Given as goal

abbrev pub invariant-loop-line : goal.invariant-loop-line
invariant-loop-line g l = AreTold (g.C.DriftClock.readings l.fn.clock) l.fn.s l.fn.frame l.told l.fn.self l.self

abbrev pub decreases-loop-line : goal.decreases-loop-line
decreases-loop-line g l = length l.fn.s.script - l.told
