use Rattle.std.proofs.Common.{ap, subst}
use Rattle.std.proofs.lemmas.Result.{on_ok_weaker}
use Rattle.bus_rules.specs.Cores.{Setup}
use Rattle.air_log.specs.Devices.{Device, silenced}
use Rattle.air_log.specs.Courses.{CourseState, CourseShows, HasListsOf}
use Rattle.air_log.specs.CourseParts.{course_of}
use Rattle.air_log.proofs.CourseSteps.{closed_is, close_tells}
use Rattle.air_log.proofs.course.Course.close.Goals as goal

pub returns : goal.returns
returns c =
    let t = c.args.t in
    let old = course_of c.self.inside in
    let new = c.log_tuning-3.new.self in
    on_ok_weaker c.log_tuning-3.result (λ logged.
    subst (λ (k : CourseState). (q : Setup) (d : Device) → CourseShows q t k d → HasListsOf q new (silenced q.id t d)) c.self.view_is
    (close_tells t old new
    (closed_is t old c.log_tuning.new.self new c.tune-over.new.self c.tune-over.result c.log_tuning-2.inside.tuning.last c.tune-over.ensures.after
    c.tune-over.ensures.over c.in_ok-log_tuning.ensures (ap (λ (k : CourseState). k.tuning.last) c.log_tuning-2.view_is) logged)))
    c.log_tuning-3.ensures
