use Rattle.std.proofs.Common.{◌≡◌, ◌-◌, ℕ, List, length, Bool, true, Option, None, if◌then◌else◌, refl, sym, ◌∙◌, ap, subst}
use Rattle.std.specs.Prelude.{option_copied, is_some}
use Rattle.std.specs.List.{slice_get}
use Rattle.std.proofs.lemmas.Result.{on_ok_weaker}
use Rattle.lwb_base.specs.declared.event.Event.TheVariants.{Sent}
use Rattle.radio_model.specs.declared.sending.Sending.{Sending}
use Rattle.bus_rules.specs.Cores.{Setup}
use Rattle.air_log.specs.Devices.{Device, event}
use Rattle.air_log.specs.Trails.{device_after_end}
use Rattle.air_log.specs.DeviceStates.{DeviceState, IsSameNode, RunsUntil, whole, told_of, running, ends_now}
use Rattle.air_log.specs.Courses.{CourseState, CourseIsShown, made_in}
use Rattle.air_log.specs.CourseParts.{course_of}
use Rattle.air_log.proofs.RunningSendings.{last_there, ended_last, told_last}
use Rattle.air_log.proofs.ShownCourses.{goes_seen}
use Rattle.air_log.proofs.CourseSteps.{shown_in, then_shown, then_goes, middle, course_goes, course_listed}
use Rattle.air_log.proofs.course.Course.end_sending.Given.{Over}
use Rattle.air_log.proofs.course.Course.end_sending.Goals as goal
use Rattle.air_log.proofs.course.Course.end_sending.Goals.{After-last}

-- the device runs nothing any more
module _ (t : ℕ) (old : CourseState) (x : DeviceState) (r : Bool) (now : r ≡ true)
    (is : x ≡ record (old.device) { busy_until = if r then None else old.device.busy_until }) where
  pub ended : x ≡ record (old.device) { busy_until = None }
  ended = is ∙ ap (λ (b : Bool). record (old.device) { busy_until = if b then None else old.device.busy_until }) now

  pub channel : x.channel ≡ old.device.channel
  channel = ap (λ (s : DeviceState). s.channel) ended

  pub node : IsSameNode old.device x
  node = record {
    setup = ap (λ (s : DeviceState). s.setup) ended;
    delivery = ap (λ (s : DeviceState). s.delivery) ended;
    windows = ap (λ (s : DeviceState). s.windows) ended;
  }

  pub runs : RunsUntil x.busy_until old.sent
  runs = subst (λ (o : Option ℕ). RunsUntil o old.sent) (sym (ap (λ (s : DeviceState). s.busy_until) ended)) refl

pub notify-requires-clause-shown : goal.notify-requires-clause-shown
notify-requires-clause-shown g c =
    let old = course_of c.self.inside in
    let t = c.args.t in
    let x = c.end_sending in
    let now = c.if-not-end_sending.false in
    let h = channel t old x.new.self x.result now x.ensures.after in
    let n = node t old x.new.self x.result now x.ensures.after in
    let r = runs t old x.new.self x.result now x.ensures.after in
    shown_in t (middle t old x.new.self n h r) (then_shown t old x.new.self n h r (subst (CourseIsShown t) (sym c.self.view_is) c.requires.shown))

-- the last transmission, as code reads it
last_is : (g : Over) (c : After-last g) → option_copied c.last.result ≡ slice_get c.self.inside.sent.items (length c.self.inside.sent.items - 1)
last_is g c = c.last.ensures.value ∙ ap (λ (l : List Sending). slice_get l (length l - 1)) c.deref.ensures.value

due : (g : Over) (c : After-last g) → ends_now c.args.t c.self.inside.device.busy_until ≡ true
due g c = sym c.end_sending.ensures.ended ∙ c.if-not-end_sending.false

some : (g : Over) (c : After-last g) → RunsUntil c.self.inside.device.busy_until c.self.inside.sent.items → is_some (option_copied c.last.result) ≡ true
some g c runs = ap is_some (last_is g c) ∙ last_there c.args.t c.self.inside.device.busy_until c.self.inside.sent.items runs (due g c)

pub returns : goal.returns
returns g c =
    let clock = g.C.DriftClock.readings c.args.clock.now in
    let t = c.args.t in
    let old = course_of c.self.inside in
    let x = c.end_sending in
    let now = c.if-not-end_sending.false in
    let last = option_copied c.last.result in
    let at = (goal.at.returns g c).After-last in
    let h = channel t old x.new.self x.result now x.ensures.after in
    let n = node t old x.new.self x.result now x.ensures.after in
    let r = runs t old x.new.self x.result now x.ensures.after in
    let mid = middle t old x.new.self n h r in
    let event_is : Setup → Device → Device = λ q d. event clock q t Sent last d in
    let told = c.in_ok-notify.ensures.goes in
    on_ok_weaker c.follow.result (λ logged.
    goes_seen t (λ q d. device_after_end clock q t d) old c.args.self.now c.follow.new.self c.follow.new.self c.self.view_is refl
    (then_goes t old x.new.self n h r (λ q d. device_after_end clock q t d) event_is c.follow.new.self
    (λ y windows runs.
    let first = made_in old windows in
    x.ensures.whole clock y first runs
    ∙ ap (λ (b : Bool). told_of clock old.device.setup t (if b then running old.device.busy_until old.sent else None) (whole x.new.self y first)) now
    ∙ ap (λ (o : Option Sending). told_of clock old.device.setup t o (whole x.new.self y first))
    (ended_last t old.device.busy_until old.sent (due g at) ∙ sym (last_is g at))
    ∙ told_last clock old.device.setup t last (whole x.new.self y first) (some g at runs))
    (goes_seen t event_is mid mid _ c.follow.new.self refl
    (course_listed t mid c.notify.new.self told.0 c.notify.new.deliveries.items c.follow.new.self told.1 logged)
    (course_goes t event_is mid c.notify.new.self told.0 told.2))))
    c.follow.ensures
