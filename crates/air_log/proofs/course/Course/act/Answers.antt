use Rattle.std.proofs.Common.{sym, subst}
use Rattle.std.proofs.lemmas.Result.{on_ok_weaker}
use Rattle.air_log.specs.Courses.{CourseIsShown}
use Rattle.air_log.specs.CourseParts.{course_of}
use Rattle.bus_rules.specs.Cores.{Setup}
use Rattle.air_log.specs.Devices.{Device}
use Rattle.air_log.specs.ScriptedDevices.{device_after_act}
use Rattle.air_log.proofs.ShownCourses.{goes_seen}
use Rattle.air_log.proofs.CourseSteps.{shown_in, course_goes, course_listed}
use Rattle.air_log.proofs.course.Course.act.Goals as goal

pub act-requires-clause-shown : goal.act-requires-clause-shown
act-requires-clause-shown g c =
    shown_in c.args.t (course_of c.self.inside) (subst (CourseIsShown c.args.t) (sym c.self.view_is) c.requires.shown)

pub returns : goal.returns
returns g c =
    let t = c.args.t in
    let old = course_of c.self.inside in
    let x = c.in_ok-act.ensures.goes in
    let line = c.args.line.now in
    let act_is : Setup → Device → Device = λ q d. device_after_act (g.C.DriftClock.readings c.args.clock.now) q t d line.act d.power in
    on_ok_weaker c.follow.result (λ logged.
    goes_seen t act_is old c.args.self.now _ c.follow.new.self c.self.view_is
    (course_listed t old c.act.new.self x.0 c.act.new.deliveries.items c.follow.new.self x.1 logged)
    (course_goes t act_is old c.act.new.self x.0 x.2))
    c.follow.ensures
