use Rattle.std.proofs.Common.{◌-◌, length}
use Rattle.host_return.specs.Courses.{IsFollowed}
use Rattle.host_return.proofs.ProbedStill.{AreProbed}
use Rattle.host_return.proofs.follow.follow.Given as goal

abbrev pub invariant-loop-course : goal.invariant-loop-course
invariant-loop-course g l =
    IsFollowed l.fn.s l.course × AreProbed l.fn.s l.course.scenario l.course.air l.course.returns.items
    × g.R.Runner.kept l.runner l.course.scenario l.course.air

abbrev pub decreases-loop-course : goal.decreases-loop-course
decreases-loop-course g l = 16 - length l.course.returns.items
