use Rattle.std.proofs.Common.{sym}
use Rattle.std.proofs.lemmas.Result.{on_ok_weaker}
use Rattle.air_log.specs.Trails.{device_after_start}
use Rattle.air_log.specs.CourseParts.{course_of}
use Rattle.air_log.proofs.ShownCourses.{goes_seen}
use Rattle.air_log.proofs.CourseSteps.{begin_goes}
use Rattle.air_log.proofs.course.Course.begin.Goals as goal

pub returns : goal.returns
returns c =
    let old = course_of c.self.inside in
    let x = c.start-sending in
    on_ok_weaker c.log_sending.result (λ logged.
    goes_seen c.args.t (λ q d. device_after_start q c.args.t d) old c.args.self.now _ c.log_sending.new.self c.self.view_is (sym logged)
    (begin_goes c.args.t old x.new.self x.result (λ q d. device_after_start q c.args.t d) x.ensures.whole x.ensures.until x.ensures.channel
    x.ensures.node))
    c.log_sending.ensures
