use Rattle.std.proofs.Common.{◌-◌}
use Rattle.air_log.proofs.FramesOfCourses.{IsInFrame}
use Rattle.air_log.proofs.course.Course.frame.Given as goal

abbrev pub invariant-loop-t : goal.invariant-loop-t
invariant-loop-t g l = IsInFrame (g.C.DriftClock.readings l.fn.clock) l.fn.s l.fn.heard l.fn.frame l.t l.until l.next l.fn.self l.self

abbrev pub decreases-loop-t : goal.decreases-loop-t
decreases-loop-t g l = l.until - l.t
