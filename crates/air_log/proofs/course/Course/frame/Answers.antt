use Rattle.std.proofs.Common.{◌≡◌, ◌≤◌, ◌*◌, ℕ, sym, ap, subst, ◌∙◌, arith}
use Rattle.std.specs.Prelude.{slice_get}
use Rattle.air_log.specs.Courses.{least_due}
use Rattle.air_log.proofs.AlarmRows.{roomy}
use Rattle.air_log.proofs.FramesOfCourses.{IsAtTick, tick_of, next_start, first_tick, early, alarms_end, later_by, next_tick, frame_over, shown_over}
use Rattle.air_log.proofs.course.Course.frame.Goals as goal

pub loop-t-init : goal.loop-t-init
loop-t-init g c =
    let s = c.args.s.now in
    let f = c.args.frame in
    let now = tick_of s f c.from.result c.frame-length.result c.profile.result c.from.ensures c.frame-length.ensures.value c.profile.ensures.value in
    let long : c.frame-length.result ≡ s.profile.frame = c.frame-length.ensures.value ∙ ap (λ p. p.frame) c.profile.ensures.value in
    let some : 1 ≤ s.profile.frame = (let room = roomy s.profile c.requires.sound.profile in omega (arith, room.long)) in
    record {
      at =
          first_tick (g.C.DriftClock.readings c.args.clock.now) s c.args.heard.now f
          (c.from.result * c.frame-length.result) c.args.first c.args.self.now some now c.requires.cut;
      end = omega (arith, now, long, next_start s f);
    }

pub tick-requires-clause-early : goal.tick-requires-clause-early
tick-requires-clause-early g c =
    let i = c.loop-t.invariant in
    early (g.C.DriftClock.readings c.args.clock.now) c.args.s.now c.args.heard.now c.args.frame c.requires.sound
    (g.met.C.DriftClock.keeps_drift_law c.args.clock.now) c.requires.frame c.loop-t.t c.loop-t.next c.args.self.now c.loop-t.self i.at
    (omega (arith, c.loop-t-test.true, i.end))

pub tick-requires-clause-cut : goal.tick-requires-clause-cut
tick-requires-clause-cut g c = c.loop-t.invariant.at.cut

pub tick-requires-clause-ends : goal.tick-requires-clause-ends
tick-requires-clause-ends g c =
    let i = c.loop-t.invariant in
    alarms_end (g.C.DriftClock.readings c.args.clock.now) c.args.s.now c.args.heard.now c.args.frame c.requires.sound
    (g.met.C.DriftClock.keeps_drift_law c.args.clock.now) c.requires.frame c.loop-t.t c.loop-t.next c.args.self.now c.loop-t.self i.at
    (omega (arith, c.loop-t-test.true, i.end)) c.requires.shown

pub loop-t-smaller : goal.loop-t-smaller
loop-t-smaller g c =
    let i = c.loop-t.invariant in
    let on = later_by (g.C.DriftClock.readings c.args.clock.now) c.args.s.now c.args.heard.now c.args.frame c.requires.sound
    (g.met.C.DriftClock.keeps_drift_law c.args.clock.now) c.requires.frame c.loop-t.t c.loop-t.next c.args.self.now c.loop-t.self i.at
    (omega (arith, c.loop-t-test.true, i.end))
    c.requires.ascends c.in_ok-next.next c.in_ok-next.ensures.cut c.tick.new.self c.in_ok-next.ensures.goes c.requires.shown in
    let due = c.next_due-t.ensures ∙ ap (least_due c.tick.new.self.device (slice_get c.args.heard.now c.in_ok-next.next)) i.end in
    omega (arith, on, due, c.loop-t-test.true)

pub loop-t-preserved : goal.loop-t-preserved
loop-t-preserved g c =
    let i = c.loop-t.invariant in
    let clock = g.C.DriftClock.readings c.args.clock.now in
    let next = next_tick clock c.args.s.now c.args.heard.now c.args.frame c.requires.sound
    (g.met.C.DriftClock.keeps_drift_law c.args.clock.now) c.requires.frame c.loop-t.t c.loop-t.next c.args.self.now c.loop-t.self i.at
    (omega (arith, c.loop-t-test.true, i.end))
    c.requires.ascends c.in_ok-next.next c.in_ok-next.ensures.cut c.tick.new.self c.in_ok-next.ensures.goes c.requires.shown in
    let due = c.next_due-t.ensures ∙ ap (least_due c.tick.new.self.device (slice_get c.args.heard.now c.in_ok-next.next)) i.end in
    record {
      at = subst (λ (t : ℕ). IsAtTick clock c.args.s.now c.args.heard.now c.args.frame t c.in_ok-next.next c.args.self.now c.tick.new.self)
          (sym due) next;
      end = i.end;
    }

pub returns-clause-cut : goal.returns-clause-cut
returns-clause-cut g c =
    let i = c.loop-t.invariant in
    (frame_over (g.C.DriftClock.readings c.args.clock.now) c.args.s.now c.args.heard.now c.args.frame c.loop-t.t c.loop-t.next c.args.self.now c.loop-t.self
    i.at (omega (arith, c.loop-t-test.false, i.end))).cut

pub returns-clause-power : goal.returns-clause-power
returns-clause-power g c = c.loop-t.invariant.at.power

pub returns-clause-shows : goal.returns-clause-shows
returns-clause-shows g c =
    let i = c.loop-t.invariant in
    let clock = g.C.DriftClock.readings c.args.clock.now in
    let over = frame_over clock c.args.s.now c.args.heard.now c.args.frame c.loop-t.t c.loop-t.next c.args.self.now c.loop-t.self i.at
    (omega (arith, c.loop-t-test.false, i.end)) in
    shown_over clock c.args.s.now c.args.heard.now c.args.frame c.loop-t.next c.args.self.now c.loop-t.self over
