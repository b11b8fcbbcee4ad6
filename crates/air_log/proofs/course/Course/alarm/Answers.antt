use Rattle.std.proofs.Common.{sym, subst}
use Rattle.std.proofs.lemmas.Result.{on_ok_weaker}
use Rattle.air_log.specs.Courses.{IsShownEnding}
use Rattle.air_log.specs.CourseParts.{course_of}
use Rattle.air_log.proofs.CourseSteps.{ending_in, alarmed_goes}
use Rattle.air_log.proofs.course.Course.alarm.Goals as goal

pub take_alarms-requires-clause-ends : goal.take_alarms-requires-clause-ends
take_alarms-requires-clause-ends g c =
    let clock = g.C.DriftClock.readings c.args.clock.now in
    ending_in clock c.args.t (course_of c.self.inside) (subst (IsShownEnding clock c.args.t (λ q d. d)) (sym c.self.view_is) c.requires.ends)

pub returns : goal.returns
returns g c =
    let clock = g.C.DriftClock.readings c.args.clock.now in
    let after = c.take_alarms.new in
    on_ok_weaker c.follow.result (λ logged. alarmed_goes clock c.args.t (course_of c.self.inside) after.self after.deliveries.items
    c.in_ok-take_alarms.ensures.goes c.args.self.now c.follow.new.self c.self.view_is logged)
    c.follow.ensures
