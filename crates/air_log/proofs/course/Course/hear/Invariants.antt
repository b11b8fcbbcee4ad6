use Rattle.std.proofs.Common.{length, ◌-◌}
use Rattle.air_log.proofs.HearingsOfCourses.{AreHeard}
use Rattle.air_log.proofs.course.Course.hear.Given as goal

abbrev pub invariant-loop-hearing : goal.invariant-loop-hearing
invariant-loop-hearing g l = AreHeard (g.C.DriftClock.readings l.fn.clock) l.fn.heard l.fn.t l.next l.fn.self l.self

abbrev pub decreases-loop-hearing : goal.decreases-loop-hearing
decreases-loop-hearing g l = length l.fn.heard - l.next
