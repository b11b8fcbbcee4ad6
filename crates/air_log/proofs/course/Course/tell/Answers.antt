use Rattle.std.proofs.Common.{sym, subst}
use Rattle.std.specs.Prelude.{option_copied}
use Rattle.std.proofs.lemmas.Result.{on_ok_weaker}
use Rattle.air_log.specs.Courses.{CourseIsShown}
use Rattle.air_log.specs.CourseParts.{course_of}
use Rattle.bus_rules.specs.Cores.{Setup}
use Rattle.air_log.specs.Devices.{Device, event}
use Rattle.air_log.proofs.ShownCourses.{goes_seen}
use Rattle.air_log.proofs.CourseSteps.{shown_in, course_goes, course_listed}
use Rattle.air_log.proofs.course.Course.tell.Goals as goal

pub notify-requires-clause-shown : goal.notify-requires-clause-shown
notify-requires-clause-shown g c =
    shown_in c.args.t (course_of c.self.inside) (subst (CourseIsShown c.args.t) (sym c.self.view_is) c.requires.shown)

pub returns : goal.returns
returns g c =
    let t = c.args.t in
    let old = course_of c.self.inside in
    let x = c.in_ok-notify.ensures.goes in
    let notice = c.args.notice.now in
    let event_is : Setup → Device → Device =
    λ q d. event (g.C.DriftClock.readings c.args.clock.now) q t notice.event.now (option_copied notice.ended) d in
    on_ok_weaker c.follow.result (λ logged.
    goes_seen t event_is old c.args.self.now _ c.follow.new.self c.self.view_is
    (course_listed t old c.notify.new.self x.0 c.notify.new.deliveries.items c.follow.new.self x.1 logged)
    (course_goes t event_is old c.notify.new.self x.0 x.2))
    c.follow.ensures
