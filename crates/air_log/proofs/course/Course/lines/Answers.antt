use Rattle.std.proofs.Common.{◌≡◌, ◌≤◌, ◌^◌, ◌+◌, ◌*◌, ℕ, Some, sym, subst, arith}
use Rattle.std.specs.Prelude.{slice_get}
use Rattle.std.proofs.lemmas.Option.{slice_get_within}
use Rattle.scenario_text.specs.AddedLines.{frame_of_line}
use Rattle.air_log.specs.Courses.{CourseIsShown, Goes, IsSplitByKey}
use Rattle.air_log.specs.Trails.{frame_start}
use Rattle.air_log.proofs.ListCuts.{read_at, read_past, cut_at, cut_end}
use Rattle.air_log.proofs.LinesOfCourses.{none_told, in_range, boots, one_more_told, all_told, own_line}
use Rattle.air_log.proofs.FramesOfCourses.{tick_of, start_early}
use Rattle.air_log.proofs.course.Course.lines.Given.{Over}
use Rattle.air_log.proofs.course.Course.lines.Goals as goal
use Rattle.air_log.proofs.course.Course.lines.Goals.{After-frame, In-Some, In_default, Then-line-frame}

-- the line that is read is there, and the next is of a later frame or there is none
there : (g : Over) (c : In-Some g) → slice_get c.args.s.now.script c.loop-line.told ≡ Some c.in-Some.line.now
there g c =
    read_at c.args.s.now.script c.script.result.now c.loop-line.told c.in-Some.line.now c.script.ensures.value c.in-Some.ensures.lookup.0
    c.in-Some.ensures.lookup.1

later : (g : Over) (c : Then-line-frame g) → slice_get c.args.s.now.script c.loop-line.told ≡ Some c.in-Some.line.now
    → IsSplitByKey frame_of_line c.args.s.now.script c.loop-line.told (c.args.frame + 1)
later g c at = cut_at frame_of_line c.args.s.now.script c.requires.sound.script_ascends c.loop-line.told c.args.frame c.in-Some.line.now at
    c.if-line-frame.true c.loop-line.invariant.cut

over : (g : Over) (c : In_default g) → IsSplitByKey frame_of_line c.args.s.now.script c.loop-line.told (c.args.frame + 1)
over g c = cut_end frame_of_line c.args.s.now.script c.loop-line.told c.args.frame
    (read_past c.args.s.now.script c.script.result.now c.loop-line.told c.script.ensures.value c.in_default.ensures.lookup.0) c.loop-line.invariant.cut

now : (g : Over) (c : After-frame g) → c.from.result * c.frame.result ≡ frame_start c.args.s.now c.args.frame
now g c = tick_of c.args.s.now c.args.frame c.from.result c.frame.result c.profile.result c.from.ensures c.frame.ensures.value c.profile.ensures.value

pub loop-line-init : goal.loop-line-init
loop-line-init g c =
    none_told (g.C.DriftClock.readings c.args.clock.now) c.args.s.now c.requires.sound c.args.frame c.args.first c.args.self.now c.requires.cut c.requires.power
    c.requires.shown

pub returns-then-line-frame-clause-cut : goal.returns-then-line-frame-clause-cut
returns-then-line-frame-clause-cut g c = later g c (there g (goal.at.returns-then-line-frame-clause-cut g c).In-Some)

pub returns-then-line-frame-clause-power : goal.returns-then-line-frame-clause-power
returns-then-line-frame-clause-power g c = c.loop-line.invariant.power

pub returns-then-line-frame-clause-goes : goal.returns-then-line-frame-clause-goes
returns-then-line-frame-clause-goes g c =
    all_told (g.C.DriftClock.readings c.args.clock.now) c.args.s.now c.requires.sound c.args.frame c.loop-line.told c.args.self.now c.loop-line.self
    c.loop-line.invariant (later g c (there g (goal.at.returns-then-line-frame-clause-goes g c).In-Some))

pub line-requires-clause-shown : goal.line-requires-clause-shown
line-requires-clause-shown g c =
    subst (λ (t : ℕ). CourseIsShown t c.loop-line.self) (sym (now g (goal.at.line-requires-clause-shown g c).After-frame)) c.loop-line.invariant.shown

pub line-requires-clause-early : goal.line-requires-clause-early
line-requires-clause-early g c =
    subst (λ (t : ℕ). t ≤ 2 ^ 45) (sym (now g (goal.at.line-requires-clause-early g c).After-frame))
    (start_early c.args.s.now c.args.frame c.requires.sound c.requires.frame)

pub line-requires-clause-range : goal.line-requires-clause-range
line-requires-clause-range g c =
    in_range (g.C.DriftClock.readings c.args.clock.now) c.args.s.now c.requires.sound c.args.frame c.loop-line.told c.args.self.now c.loop-line.self
    c.loop-line.invariant c.in-Some.line.now (there g (goal.at.line-requires-clause-range g c).In-Some) c.requires.profile

pub line-requires-clause-boots : goal.line-requires-clause-boots
line-requires-clause-boots g c =
    boots (g.C.DriftClock.readings c.args.clock.now) c.args.s.now c.requires.sound c.args.frame c.loop-line.told c.args.self.now c.loop-line.self
    c.loop-line.invariant c.in-Some.line.now (there g (goal.at.line-requires-clause-boots g c).In-Some)

pub loop-line-smaller : goal.loop-line-smaller
loop-line-smaller g c =
    let below = slice_get_within c.args.s.now.script c.loop-line.told c.in-Some.line.now (there g (goal.at.loop-line-smaller g c).In-Some) in
    omega (arith, below)

pub loop-line-preserved : goal.loop-line-preserved
loop-line-preserved g c =
    let back = goal.at.loop-line-preserved g c in
    let clock = g.C.DriftClock.readings c.args.clock.now in
    one_more_told clock c.args.s.now c.requires.sound c.args.frame c.loop-line.told c.args.self.now c.loop-line.self c.loop-line.invariant
    c.in-Some.line.now (there g back.In-Some) c.if-line-frame.false c.line.new.self
    (subst (λ (t : ℕ). Goes t (own_line clock t c.in-Some.line.now) c.loop-line.self c.line.new.self) (now g back.After-frame) c.in_ok-line.ensures)

pub returns-clause-cut : goal.returns-clause-cut
returns-clause-cut g c = over g (goal.at.returns-clause-cut g c).In_default

pub returns-clause-power : goal.returns-clause-power
returns-clause-power g c = c.loop-line.invariant.power

pub returns-clause-goes : goal.returns-clause-goes
returns-clause-goes g c =
    all_told (g.C.DriftClock.readings c.args.clock.now) c.args.s.now c.requires.sound c.args.frame c.loop-line.told c.args.self.now c.loop-line.self
    c.loop-line.invariant (over g (goal.at.returns-clause-goes g c).In_default)
