use Rattle.air_log.proofs.TrailsOfCourses.{IsAtFrame}
use Rattle.air_log.proofs.trails.trail_over.Given as goal

abbrev pub invariant-loop-frame : goal.invariant-loop-frame
invariant-loop-frame g l = IsAtFrame (g.C.DriftClock.readings l.fn.clock) l.fn.s l.fn.node l.heard.items l.frame l.told l.next l.tunes.items l.scanned l.course
