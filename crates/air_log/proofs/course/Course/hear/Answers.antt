use Rattle.std.proofs.Common.{◌≡◌, ◌+◌, ℕ, List, Option, Some, None, subst, refl, arith}
use Rattle.std.specs.Prelude.{slice_get}
use Rattle.lwb_base.specs.declared.event.Event.TheVariants.{Heard}
use Rattle.radio_model.specs.declared.sending.Sending.{Sending}
use Rattle.air_log.specs.Devices.{event}
use Rattle.std.proofs.lemmas.Option.{slice_get_within}
use Rattle.air_log.specs.Courses.{Goes, IsSplitByKey, end_of_reception}
use Rattle.air_log.proofs.ShownCourses.{shown_still}
use Rattle.air_log.proofs.ListCuts.{read_at, read_past, cut_at, cut_end}
use Rattle.air_log.proofs.HearingsOfCourses.{none_heard, one_more_heard, all_heard}
use Rattle.air_log.proofs.course.Course.hear.Given.{Over}
use Rattle.air_log.proofs.course.Course.hear.Goals as goal
use Rattle.air_log.proofs.course.Course.hear.Goals.{In-Some, In_default, Then-hearing-t}

-- the reception that is read is there, and the next ends later or there is none
there : (g : Over) (c : In-Some g) → slice_get c.args.heard.now c.loop-hearing.next ≡ Some c.in-Some.hearing.now
there g c =
    read_at c.args.heard.now c.args.heard.now c.loop-hearing.next c.in-Some.hearing.now refl c.in-Some.ensures.lookup.0 c.in-Some.ensures.lookup.1

later : (g : Over) (c : Then-hearing-t g) → slice_get c.args.heard.now c.loop-hearing.next ≡ Some c.in-Some.hearing.now
    → IsSplitByKey end_of_reception c.args.heard.now c.loop-hearing.next (c.args.t + 1)
later g c at = cut_at end_of_reception c.args.heard.now c.requires.ascends c.loop-hearing.next c.args.t c.in-Some.hearing.now at
    c.if-hearing-t.true c.loop-hearing.invariant.cut

over : (g : Over) (c : In_default g) → IsSplitByKey end_of_reception c.args.heard.now c.loop-hearing.next (c.args.t + 1)
over g c = cut_end end_of_reception c.args.heard.now c.loop-hearing.next c.args.t
    (read_past c.args.heard.now c.args.heard.now c.loop-hearing.next refl c.in_default.ensures.lookup.0) c.loop-hearing.invariant.cut

pub loop-hearing-init : goal.loop-hearing-init
loop-hearing-init g c = none_heard (g.C.DriftClock.readings c.args.clock.now) c.args.heard.now c.args.t c.args.first c.args.self.now c.requires.cut

pub returns-then-hearing-t-clause-cut : goal.returns-then-hearing-t-clause-cut
returns-then-hearing-t-clause-cut g c = later g c (there g (goal.at.returns-then-hearing-t-clause-cut g c).In-Some)

pub returns-then-hearing-t-clause-goes : goal.returns-then-hearing-t-clause-goes
returns-then-hearing-t-clause-goes g c =
    all_heard (g.C.DriftClock.readings c.args.clock.now) c.args.heard.now c.args.t c.loop-hearing.next c.args.self.now c.loop-hearing.self
    c.loop-hearing.invariant (later g c (there g (goal.at.returns-then-hearing-t-clause-goes g c).In-Some))

pub tell-requires-clause-shown : goal.tell-requires-clause-shown
tell-requires-clause-shown g c = shown_still _ _ _ _ c.loop-hearing.invariant.goes c.requires.shown

pub loop-hearing-smaller : goal.loop-hearing-smaller
loop-hearing-smaller g c =
    let below = slice_get_within c.args.heard.now c.loop-hearing.next c.in-Some.hearing.now (there g (goal.at.loop-hearing-smaller g c).In-Some) in
    omega (arith, below)

pub loop-hearing-preserved : goal.loop-hearing-preserved
loop-hearing-preserved g c =
    let clock = g.C.DriftClock.readings c.args.clock.now in
    one_more_heard clock c.args.heard.now c.args.t c.loop-hearing.next c.args.self.now c.loop-hearing.self c.loop-hearing.invariant
    c.in-Some.hearing.now (there g (goal.at.loop-hearing-preserved g c).In-Some) c.if-hearing-t.false c.tell.new.self
    (let none : Option Sending = None in subst (λ (p : List ℕ). Goes c.args.t (λ q d. event clock q c.args.t (Heard p) none d) c.loop-hearing.self
    c.tell.new.self) c.copy.ensures c.in_ok-tell.ensures)

pub returns-clause-cut : goal.returns-clause-cut
returns-clause-cut g c = over g (goal.at.returns-clause-cut g c).In_default

pub returns-clause-goes : goal.returns-clause-goes
returns-clause-goes g c =
    all_heard (g.C.DriftClock.readings c.args.clock.now) c.args.heard.now c.args.t c.loop-hearing.next c.args.self.now c.loop-hearing.self
    c.loop-hearing.invariant (over g (goal.at.returns-clause-goes g c).In_default)
